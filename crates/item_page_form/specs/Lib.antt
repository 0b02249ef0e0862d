pub mod OwnForm
