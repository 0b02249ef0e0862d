pub mod Signed
pub mod Time
pub mod Capture
pub mod Sequence
pub mod Outcome
pub mod Meaning
pub mod Examples
