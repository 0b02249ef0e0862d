pub mod Number
pub mod Layout
pub mod Fits
pub mod Code
