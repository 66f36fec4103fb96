pub mod Grown
pub mod Limits
pub mod AfterTelling
pub mod Found
