pub mod Sizes
pub mod Calls
pub mod Ticks
pub mod Questions
pub mod Page
pub mod Analysis
pub mod Line
pub mod Examples
