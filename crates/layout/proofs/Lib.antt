-- What the functions' proofs lean on.
pub mod Readings
pub mod Placing
pub mod Ranks
pub mod Fronts
pub mod Overlays
pub mod Places
pub mod Again
pub mod Stored
pub mod Examples
