pub mod NumberLaws
pub mod DigitLaws
pub mod ListLaws
pub mod PartLaws
pub mod ReadLaws
pub mod CallLaws
pub mod WantedLaws
pub mod LineLaws
