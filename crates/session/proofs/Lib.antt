pub mod EndLaws
pub mod Examples
pub mod FeedLaws
pub mod InputLaws
pub mod LoopLaws
pub mod Meaning
pub mod Turns
