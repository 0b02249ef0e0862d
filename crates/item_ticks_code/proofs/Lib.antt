pub mod Ticks
pub mod Turns
pub mod ReportWords
pub mod Holding
