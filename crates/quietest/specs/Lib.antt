pub mod Quietest
pub mod Search
