pub mod ArcEnds
pub mod Named
pub mod KindRanges
pub mod FormedNetwork
