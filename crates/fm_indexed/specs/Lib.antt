pub mod NodeRanges
pub mod Numbered
pub mod Feasible
pub mod Unscheduled
pub mod inner
