pub mod Inputs
pub mod NetworkSoFar
