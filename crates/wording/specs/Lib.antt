pub mod Text
pub mod Wording
