pub mod Words
pub mod Numbers
pub mod Mark
pub mod Decimals
pub mod Clean
pub mod Line
pub mod Spaced
