-- What the functions' proofs lean on.
pub mod SmallSums
pub mod Units
pub mod Requirements
pub mod LeafAnswers
pub mod RampUnits
pub mod MarkBytes
pub mod Takings
pub mod Shorts
pub mod Crowds
