pub mod Limits
pub mod Sum
pub mod Integer
pub mod Mean
pub mod Ports
pub mod Meaning
pub mod Rows
