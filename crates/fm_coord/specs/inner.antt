pub mod TallyCache
pub mod KeeperStates
