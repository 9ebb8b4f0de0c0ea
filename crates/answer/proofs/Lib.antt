pub mod Examples
pub mod InTurn
pub mod Cases
pub mod Widths
pub mod NumberExamples
pub mod NumberCases
pub mod NumbersTell
