pub mod Answers
pub mod Briefly
pub mod Examples
