pub mod Steps
pub mod Meaning
pub mod FrameSteps
pub mod Examples
