pub mod Signed
pub mod Order
pub mod Join
pub mod Inside
pub mod Meaning
pub mod Examples
