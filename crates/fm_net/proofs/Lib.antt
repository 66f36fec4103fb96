pub mod Equal
mod Examples
mod Edited
pub mod Kept
pub mod KeptLists
pub mod Said
pub mod Touches
pub mod Made
pub mod Shown
pub mod Copied
pub mod Refilled
pub mod BoundLaws
pub mod EditLaws
pub mod ListLaws
pub mod NetworkLaws
pub mod SetNetworkLaws
pub mod TouchedLaws
