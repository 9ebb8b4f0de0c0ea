pub mod LineCuts
pub mod TheCut
pub mod Places
pub mod Search
pub mod Examples
