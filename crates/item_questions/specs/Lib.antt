pub mod Answers
pub mod Cut
