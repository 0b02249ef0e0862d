pub mod Fill
pub mod Justified
