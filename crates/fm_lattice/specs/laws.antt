pub mod PlainLaws
pub mod MapLaws
pub mod ChainLaws
