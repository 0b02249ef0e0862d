pub mod Arrays
pub mod Kept
pub mod Registers
pub mod Examples
