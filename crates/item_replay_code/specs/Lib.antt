pub mod OwnHeld
pub mod OwnRest
pub mod OwnState
pub mod OwnTurn
pub mod OwnGone
pub mod OwnLine
