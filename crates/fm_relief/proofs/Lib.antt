pub mod Orders
pub mod Fronts
pub mod Held
pub mod Listing
pub mod Least
pub mod Adding
