pub mod Examples
pub mod Room
