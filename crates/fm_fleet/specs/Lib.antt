pub use Rattle.fm_inbox.specs.Conservation
pub use Rattle.fm_inbox.specs.Ports
pub mod Seats
pub mod Rounds
pub mod Audits
pub mod inner
