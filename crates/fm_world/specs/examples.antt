pub mod AgreementExamples
pub mod ListingExamples
