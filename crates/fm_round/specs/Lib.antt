pub mod PlanEquality
pub mod Admission
pub mod Stopping
pub mod PlanOfFlow
pub mod Schedules
pub mod inner
pub mod laws
