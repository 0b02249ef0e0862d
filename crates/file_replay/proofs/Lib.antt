pub mod SourceLaws
pub mod Along
pub mod Run
pub mod SingleLaws
pub mod Examples
