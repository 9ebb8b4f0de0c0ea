pub mod Parts
pub mod LastDigit
pub mod Figures
pub mod Sizes
pub mod ReadBack
pub mod Examples
