mod Causes
pub mod Columns
mod Drained
mod Ending
mod Leaving
mod Merging
mod Passing
mod Seated
pub mod Stopping
mod Working
pub mod Same
pub mod Numbers
pub mod Senders
