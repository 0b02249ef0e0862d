pub mod OwnMoved
pub mod OwnRan
pub mod OwnHeld
