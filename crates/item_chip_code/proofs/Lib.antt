pub mod FrameSteps
pub mod FrameFacts
pub mod Lines
pub mod Filling
pub mod Comparisons
pub mod ReadSteps
