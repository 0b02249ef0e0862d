pub mod Kind
pub mod Group
pub mod Tally
pub mod Summary
