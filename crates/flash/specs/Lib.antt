pub mod Flash
pub mod Operation
