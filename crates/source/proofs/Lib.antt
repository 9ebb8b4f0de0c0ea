-- That the model reads the paper's equations rightly.
pub mod Indices
pub mod Ranged
pub mod Before
-- the rules, (2) to (12)
pub mod Stays
pub mod UpDown
pub mod Rows
pub mod Schedules
pub mod Horizon
pub mod Leaves
pub mod Counts
pub mod Ramps
-- the costs, (13) to (20), and (1)
pub mod Downtime
pub mod Charges
pub mod SwitchCosts
pub mod Objective
pub mod CostOfRows
pub mod Repaired
pub mod Printed
pub mod Solutions
pub mod Midnight
pub mod BoundOfSource
-- computed examples and counterexamples
pub mod ShownFifteen
pub mod ShownMidnight
pub mod Conditions
pub mod WholeOutputs
