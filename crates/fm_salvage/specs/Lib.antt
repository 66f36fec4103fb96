pub mod StoreFronts
pub mod ListingText
pub mod RecoveryText
pub mod inner
