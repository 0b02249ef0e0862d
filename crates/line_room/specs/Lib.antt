pub mod Form
