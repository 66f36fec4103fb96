pub mod Recovering
pub mod Keeping
pub mod Appending
pub mod Surviving
pub mod Refusing
pub mod Listed
pub mod Streams
