-- A docket in two lists of numbers, and what lodging texts makes of them.
pub mod Layout
pub mod Kept
