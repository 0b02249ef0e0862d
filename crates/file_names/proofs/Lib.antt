pub mod HeldLaws
pub mod Laws
pub mod Examples
