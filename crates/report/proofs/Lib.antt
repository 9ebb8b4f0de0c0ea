pub mod Lines
pub mod Stages
pub mod Places
pub mod Examples
