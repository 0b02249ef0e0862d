pub mod Line
pub mod Reading
pub mod OwnRead
pub mod OwnBounds
