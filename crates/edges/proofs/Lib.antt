-- Laws that the proofs of the functions cite.
pub mod OrderNumbers
pub mod Copies
pub mod LongTexts
