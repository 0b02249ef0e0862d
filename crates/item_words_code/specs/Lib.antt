pub mod OwnReports
pub mod OwnTexts
