pub mod OwnSteps
pub mod OwnFirst
