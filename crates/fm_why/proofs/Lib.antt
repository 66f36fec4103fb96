pub mod Gaps
pub mod Roomy
pub mod Pricing
pub mod Shown
pub mod Growing
