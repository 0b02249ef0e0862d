pub mod OwnFrame
pub mod OwnAnswered
pub mod OwnCompared
