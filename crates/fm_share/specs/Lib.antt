pub mod Shares
pub mod Parts
pub mod inner
