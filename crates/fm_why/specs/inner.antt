pub mod Schedule
pub mod MachineWays
pub mod ChangeKinds
