pub mod Asking
pub mod Joining
pub mod Zipped
pub mod PacketFaults
