pub mod Words
pub mod Answer
pub mod Step
pub mod OwnView
pub mod OwnRoom
pub mod OwnKept
