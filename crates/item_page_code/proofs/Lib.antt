pub mod Rows
pub mod PageWords
