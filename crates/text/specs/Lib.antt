pub mod Text
pub mod OwnPut
pub mod OwnPart
