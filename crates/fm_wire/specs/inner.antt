pub mod Decoding
pub mod RecordSizes
