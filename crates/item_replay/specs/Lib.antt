pub mod Replay
pub mod Going
pub mod OwnFeed
pub mod OwnTurn
