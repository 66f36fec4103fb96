pub mod Listing
pub mod Firsts
pub mod Sublists
