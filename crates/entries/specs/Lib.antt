-- Entries worked out by hand.
pub mod EntryExamples
