pub mod LineLaws
pub mod Pieces
pub mod Examples
