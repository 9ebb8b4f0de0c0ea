-- What the definitions imply.
pub mod Rows
pub mod Units
pub mod Search
pub mod Counts
pub mod Sums
pub mod Standing
pub mod Shortage
pub mod Tests
pub mod Switch
pub mod Before
pub mod Fuel
pub mod Walk
pub mod CostSize
pub mod Tallied
pub mod RuleByRule
pub mod Examples
pub mod UnitTallies
