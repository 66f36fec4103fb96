pub mod Numbers
pub mod Events
pub mod Causes
pub mod Replays
pub mod States
pub mod Outputs
pub mod Decisions
pub mod inner
