pub mod Invocation
pub mod CommandLine
pub mod Parser
pub mod inner
