pub mod Kept
pub mod Singly
pub mod Ticks
