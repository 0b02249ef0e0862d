pub mod Frames
pub mod Sending
