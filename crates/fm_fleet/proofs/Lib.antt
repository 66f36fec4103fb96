pub mod Logs
pub mod May
pub mod Noted
pub mod Seating
pub mod Wholes
