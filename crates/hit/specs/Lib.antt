pub mod Limit
pub mod Words
pub mod Mean
pub mod Difference
pub mod Biased
