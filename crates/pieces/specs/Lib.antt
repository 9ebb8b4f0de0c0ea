pub mod Search
pub mod Pieces
pub mod Cut
