pub mod Named
pub mod Turns
pub mod Digits
pub mod Last
pub mod Flags
