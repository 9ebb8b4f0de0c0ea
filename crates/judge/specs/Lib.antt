-- A schedule's judgement, by the model's rules and cost.
pub mod Rows
pub mod Before
pub mod Judgement
pub mod Counts
pub mod Walk
pub mod Tallied
pub mod Loads
pub mod Rule
