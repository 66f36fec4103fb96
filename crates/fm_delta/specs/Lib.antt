pub mod Deltas
pub mod Packets
pub mod laws
pub mod inner
