pub mod PreferenceEntries
