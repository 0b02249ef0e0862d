pub mod OwnAdded
pub mod OwnAnswered
pub mod OwnListed
pub mod OwnJudged
pub mod OwnFresh
pub mod OwnFrames
