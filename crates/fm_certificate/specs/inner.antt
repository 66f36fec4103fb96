pub mod Outflow
pub mod Checks
