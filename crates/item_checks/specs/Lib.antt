pub mod Close
pub mod Fault
pub mod Open
