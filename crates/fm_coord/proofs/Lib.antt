pub mod Keeps
pub mod Happens
pub mod Said
mod Examples
pub mod Tallying
pub mod StateEqualityLaws
pub mod StepLaws
