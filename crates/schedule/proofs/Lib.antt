-- What the definitions imply.
pub mod Alls
pub mod LinesRefused
pub mod LineByLine
pub mod Ends
pub mod CutRows
pub mod Filling
pub mod Ruling
pub mod Runs
pub mod Opening
pub mod Rendered
pub mod WhichLine
pub mod Wholes
pub mod WellFormed
pub mod Outcomes
pub mod ReadAnswers
pub mod Specimens
pub mod InOrder
