pub mod Calendar
pub mod Words
pub mod Alarm
pub mod Moment
pub mod Valid
pub mod Bounds
