pub mod Chains
pub mod Joins
pub mod Maps
pub mod Stocks
pub mod Ownership
pub mod Blocks
pub mod inner
pub mod laws
