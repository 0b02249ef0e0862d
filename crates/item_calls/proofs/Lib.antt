pub mod Steps
pub mod Turns
pub mod Examples
pub mod Meaning
