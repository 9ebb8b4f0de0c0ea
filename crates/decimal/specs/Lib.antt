pub mod Decimal
pub mod NumberRead
