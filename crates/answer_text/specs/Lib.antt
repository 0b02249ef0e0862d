pub mod Texts
pub mod Line
