pub mod Log
pub mod Told
