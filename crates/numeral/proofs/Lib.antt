pub mod PlaceLaws
pub mod DigitLaws
pub mod PrintLaws
pub mod Examples
