-- Laws of the definitions, for this crate and those above it.
pub mod Laws
pub mod Hours
pub mod Validity
pub mod RoundTrip
pub mod Facts
pub mod Places
pub mod AlarmModes
pub mod Midnight
