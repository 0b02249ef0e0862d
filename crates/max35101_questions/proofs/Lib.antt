pub mod Handed
pub mod Unsound
