pub mod Loops
pub mod Parts
pub mod Meaning
pub mod Stored
pub mod Examples
pub mod Codes
pub mod Said
pub mod Unsound
