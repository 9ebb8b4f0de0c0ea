-- Dockets and reports that are wrong: what they do, and some written out.
pub mod WrongDockets
pub mod WrongStates
pub mod WrongLodging
pub mod WrongHolding
pub mod WrongReports
pub mod WrongReporting
