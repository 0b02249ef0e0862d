pub mod CloseLaws
pub mod OpenLaws
