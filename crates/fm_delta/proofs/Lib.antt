pub mod Joined
pub mod GroupLaws
