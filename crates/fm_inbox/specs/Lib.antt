pub mod Conservation
pub mod Ports
pub mod inner
