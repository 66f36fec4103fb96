pub mod Flows
pub mod Certificates
pub mod Totals
pub mod PolicyNetwork
pub mod inner
