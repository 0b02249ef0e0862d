pub mod Row
pub mod Clock
pub mod Setup
pub mod Results
pub mod Run
pub mod Commands
pub mod Page
