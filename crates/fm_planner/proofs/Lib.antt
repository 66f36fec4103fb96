pub mod Counted
pub mod Lists
pub mod Entries
pub mod Turns
pub mod Shown
mod Tops
pub mod Plans
