pub mod DurableSteps
pub mod DurableServices
pub mod DurableStreams
pub mod inner
