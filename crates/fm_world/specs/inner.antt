pub mod Calls
pub mod Names
pub mod Sweeps
pub mod ActedWorld
