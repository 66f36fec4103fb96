mod Examples
mod Rows
pub mod FactLaws
pub mod GreatestLaws
pub mod IdLaws
pub mod JoinedLaws
pub mod KnowLaws
pub mod LookupLaws
pub mod RangeLaws
pub mod SetExtensionality
pub mod SetFactLaws
pub mod SetLaws
pub mod SpelledLaws
pub mod TableLaws
pub mod UnionLaws
