pub mod Replay
pub mod Turns
pub mod LastLine
pub mod Numbered
