pub mod Rounds
pub mod Stored
pub mod Coming
pub mod Answering
mod Listing
mod Numbers
pub mod Checking
