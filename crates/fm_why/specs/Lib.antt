pub mod Running
pub mod MachineOptions
pub mod Bounds
pub mod Pricing
pub mod Alternatives
pub mod Remedies
pub mod Reasons
pub mod inner
