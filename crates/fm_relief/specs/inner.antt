pub mod Excesses
pub mod Fronts
pub mod HeldLists
