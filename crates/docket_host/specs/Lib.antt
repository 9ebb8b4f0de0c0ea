-- What a host gets.
pub mod HostAnswer
pub mod Calls
pub mod Lending
