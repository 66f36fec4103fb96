pub mod FirstRefusal
pub mod PlainCalls
