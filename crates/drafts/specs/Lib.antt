-- Price leaves worked out by hand.
pub mod DraftExamples
