pub mod PortAccounts
pub mod PortWeights
