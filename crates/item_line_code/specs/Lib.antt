pub mod OwnNumbers
pub mod OwnDigits
pub mod OwnLists
pub mod OwnParts
pub mod OwnReads
