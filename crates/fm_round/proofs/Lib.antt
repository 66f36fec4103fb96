mod Examples
pub mod Told
pub mod Weights
pub mod Keeps
pub mod Steps
pub mod After
pub mod Results
pub mod Accepted
pub mod Turns
pub mod Ready
pub mod Counting
pub mod Nic
pub mod Pairing
pub mod Over
pub mod Asked
pub mod Flows
pub mod Shut
