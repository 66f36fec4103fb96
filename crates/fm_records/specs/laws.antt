pub mod PreferenceLaws
pub mod OrderLaws
pub mod RecordEqualityLaws
