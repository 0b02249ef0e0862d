pub mod Justified
pub mod Fill
pub mod Examples
