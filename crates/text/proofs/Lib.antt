pub mod Examples
pub mod Apart
pub mod Putting
pub mod Lengths
