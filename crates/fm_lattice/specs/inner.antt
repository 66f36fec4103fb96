pub mod SortedVec
pub mod StagedJoins
pub mod BlockOrder
pub mod JoinedPairs
