pub mod Adds
pub mod Listed
pub mod Parts
pub mod Covered
pub mod Members
pub mod Finished
pub mod Named
pub mod Tallied
pub mod Counted
mod Preferred
mod Examples
mod Keys
pub mod ChangeLaws
pub mod FactsLaws
pub mod KeepingLaws
pub mod RoomLaws
