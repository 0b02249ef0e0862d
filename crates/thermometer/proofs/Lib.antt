pub mod Tests
pub mod Rise
pub mod Pt1000
pub mod Meaning
pub mod Refusal
pub mod Accepted
pub mod Probe
