pub mod Files
pub mod Run
pub mod Examples
