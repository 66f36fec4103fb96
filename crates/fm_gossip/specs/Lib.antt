pub mod Served
pub mod Members
pub mod FleetFaults
pub mod Passing
pub mod Exchanges
pub mod AfterExchange
pub mod inner
