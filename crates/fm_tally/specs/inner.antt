pub mod Holdings
pub mod Sides
pub mod TallyParts
