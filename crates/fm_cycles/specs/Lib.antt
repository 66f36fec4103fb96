pub mod Walks
pub mod Residual
pub mod Units
pub mod Found
pub mod Augment
pub mod inner
