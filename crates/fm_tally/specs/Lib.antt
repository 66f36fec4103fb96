pub mod Tallies
pub mod Unfinished
pub mod WinnerScan
pub mod JobCounts
pub mod inner
