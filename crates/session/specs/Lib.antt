pub mod Ends
pub mod Feed
pub mod Flush
pub mod Input
pub mod Line
pub mod Turns
