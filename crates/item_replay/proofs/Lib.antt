pub mod Examples
pub mod BadLine
pub mod Pieces
pub mod Capped
pub mod Turns
