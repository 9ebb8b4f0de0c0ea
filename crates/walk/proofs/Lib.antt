-- What the functions' proofs lean on.
pub mod StatusMarks
pub mod AboveMarks
pub mod Chains
pub mod Rising
pub mod Walks
pub mod WholeTables
pub mod Fronts
