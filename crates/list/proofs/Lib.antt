-- What the definitions imply, and what the functions' proofs lean on.
pub mod LineCounts
pub mod AnswerSizes
pub mod ListSizes
pub mod ListedSoFar
pub mod ListedCases
pub mod InputEnds
pub mod ListedExample
pub mod Contracts
pub mod ListingPromises
