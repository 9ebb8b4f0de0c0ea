-- What the functions' proofs lean on.
pub mod Outputs
pub mod Costs
pub mod StepCosts
pub mod Signed
pub mod UnitAnswers
pub mod UnitParts
pub mod StuckUnits
