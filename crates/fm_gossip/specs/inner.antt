pub mod Used
pub mod Works
pub mod EarlyEnds
pub mod EndedMember
