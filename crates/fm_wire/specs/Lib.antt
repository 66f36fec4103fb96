pub mod Formats
pub mod Grammar
pub mod inner
