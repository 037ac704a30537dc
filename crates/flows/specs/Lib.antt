pub mod Checks
pub mod Flows
