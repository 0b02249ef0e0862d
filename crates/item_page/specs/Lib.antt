pub mod Row
pub mod Registers
pub mod Page
