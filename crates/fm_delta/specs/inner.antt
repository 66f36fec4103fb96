pub mod JoinedDeltas
