-- A problem's numbers in one list, by the model's definitions.
pub mod Ranks
pub mod Numbers
pub mod OneProof
pub mod Plans
