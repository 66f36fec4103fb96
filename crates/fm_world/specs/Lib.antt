pub mod Worlds
pub mod Represents
pub mod Agreement
pub mod Listings
pub mod inner
pub mod examples
