-- What document 01 says of a tree's text.
pub mod Rendering
pub mod Places
pub mod Refusals
pub mod Acceptance
pub mod NodeLines
pub mod Course
pub mod Coded
pub mod Kinds
pub mod ReadAnswers
pub mod RampReads
pub mod WellFormed
