pub mod Limits
pub mod Winners
pub mod RecordFacts
pub mod KnowledgeEquality
pub mod Mutators
pub mod inner
pub mod laws
