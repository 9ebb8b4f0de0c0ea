-- What document 01 says of the docket.
pub mod Docket
pub mod Verdicts
pub mod Lodging
pub mod Report
pub mod Taking
pub mod TakingExamples
pub mod Drafting
pub mod Forcing
pub mod Texts
pub mod ReportDue
pub mod Demand3
pub mod Interleaved
pub mod Promised
pub mod Shown
pub mod HoldingAnswers
pub mod Specimens
pub mod Requested
