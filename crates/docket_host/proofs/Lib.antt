-- What a host may rely on.
pub mod ListingSizes
pub mod HostAnswers
pub mod Calls
pub mod RunsCalls
pub mod ForcedCalls
pub mod Hosted
pub mod AfterCalls
pub mod Contracts
pub mod Examples
pub mod HostPromises
