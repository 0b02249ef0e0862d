pub mod Digit
pub mod Read
pub mod Place
pub mod Print
pub mod Ascii
