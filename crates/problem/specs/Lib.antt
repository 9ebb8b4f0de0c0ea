-- A problem's text.
pub mod Units
pub mod Rendering
pub mod Refusals
pub mod Course
pub mod ReadAnswers
pub mod Storing
