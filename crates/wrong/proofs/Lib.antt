-- Demand 3 refutes each.
pub mod ShortLists
pub mod WrongDockets
pub mod WrongStates
pub mod WrongLodging
pub mod WrongHolding
pub mod KeepingLast
pub mod WrongKeeping
pub mod WrongReports
pub mod WrongReporting
