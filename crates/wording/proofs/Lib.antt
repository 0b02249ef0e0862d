pub mod Each
pub mod Order
pub mod Examples
