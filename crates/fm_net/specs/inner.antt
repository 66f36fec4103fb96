pub mod NetworkIter
pub mod Ends
pub mod IndexedCells
pub mod InOrder
