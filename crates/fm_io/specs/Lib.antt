pub mod Sources
pub mod Lines
pub mod LineReads
pub mod Replies
pub mod Runs
pub mod Groups
pub mod inner
pub mod examples
