-- What the definitions imply.
pub mod Leasts
pub mod Moving
pub mod Shifts
pub mod Owns
pub mod Steps
pub mod Reached
pub mod Joins
pub mod Ready
pub mod Filling
pub mod JoinedEntries
pub mod Questions
pub mod Answers
pub mod UnitEntries
pub mod AllEntries
