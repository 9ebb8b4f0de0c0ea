-- The source paper's equations.
pub mod Source
pub mod Midnight
pub mod Sentences
pub mod Least
pub mod Leaves
pub mod Counts
