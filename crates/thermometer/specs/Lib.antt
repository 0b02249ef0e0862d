pub mod Table
pub mod Usable
pub mod Degrees
