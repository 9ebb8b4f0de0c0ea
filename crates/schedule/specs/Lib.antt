-- A schedule's text: how it is written, how it is judged, and what reading it gives.
pub mod Rendering
pub mod Refusals
pub mod Course
pub mod ReadAnswers
pub mod Acceptance
pub mod Storing
pub mod WellFormed
