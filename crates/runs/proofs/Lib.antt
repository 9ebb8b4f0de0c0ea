-- What the proofs of a leaf's runs share.
pub mod Tables
pub mod Forward
pub mod UnitRuns
pub mod PeriodLists
pub mod Columns
pub mod PartsWritten
pub mod AllRuns
pub mod FirstStuck
pub mod Questions
pub mod Drafts
