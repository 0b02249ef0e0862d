pub mod Behind
pub mod Early
pub mod Examples
pub mod Feedless
pub mod Named
pub mod Singly
pub mod Ticks
