pub mod Bytes
pub mod Refusal
pub mod Words
pub mod Examples
