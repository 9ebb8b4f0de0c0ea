-- What prices on the ramps close, and readings of them that are wrong.
pub mod Loosened
pub mod RampWitnesses
pub mod WrongRampPrices
