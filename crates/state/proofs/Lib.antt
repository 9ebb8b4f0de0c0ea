-- What whoever keeps a docket in slices may rely on.
pub mod Sizes
pub mod Fits
pub mod Room
pub mod Arrays
pub mod Opening
pub mod Keeping
pub mod Again
pub mod Outputs
pub mod ReachedFits
pub mod Lodged
pub mod KeptOver
pub mod Examples
