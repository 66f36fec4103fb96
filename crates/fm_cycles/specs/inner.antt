pub mod Labels
pub mod ParentGraph
pub mod SentUnits
pub mod OpenWalks
