pub mod NumberRead
pub mod Digits
pub mod Numerals
pub mod Examples
