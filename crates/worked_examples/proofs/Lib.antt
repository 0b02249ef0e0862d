-- Worked examples.
pub mod Bench
pub mod Computed
pub mod Quickly
pub mod Witness
pub mod Groups
pub mod EventEnds
