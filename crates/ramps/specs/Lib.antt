-- What a tree without ramp leaves reads.
pub mod Loosened
