pub mod Building
pub mod Keeping
pub mod Changes
pub mod Rooms
pub mod Rules
pub mod NodeFacts
pub mod inner
