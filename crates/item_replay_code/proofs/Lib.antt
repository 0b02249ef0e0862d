pub mod HeldLaws
pub mod RestLaws
pub mod StateLaws
pub mod TurnLaws
pub mod GoneLaws
pub mod PieceLaws
pub mod LineLaws
