pub mod Placed
pub mod Sent
mod Digits
mod Uuids
mod Words
mod ReadLines
mod Ids
mod Leading
mod Whole
mod Lasting
mod Verdict
mod Reader
mod Arcs
mod Building
mod Examples
