pub mod Tests
pub mod Cases
pub mod Joined
pub mod Rows
pub mod Bits
pub mod Says
