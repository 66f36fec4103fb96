pub mod ReopenedWorld
pub mod SessionSteps
pub mod OwnRuns
pub mod SetEnds
pub mod Extents
