pub mod Fronting
pub mod Lines
pub mod Knowing
