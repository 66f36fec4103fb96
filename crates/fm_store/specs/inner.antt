pub mod Lengths
pub mod OnePacket
pub mod Halves
