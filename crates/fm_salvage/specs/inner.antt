pub mod FrameReading
pub mod Joining
pub mod RecordLines
