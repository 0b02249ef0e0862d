pub mod Closing
pub mod Firsts
pub mod Adding
