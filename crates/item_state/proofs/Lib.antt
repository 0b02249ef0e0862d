pub mod Part
pub mod Examples
