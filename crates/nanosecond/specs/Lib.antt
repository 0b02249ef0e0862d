pub mod Nanosecond
