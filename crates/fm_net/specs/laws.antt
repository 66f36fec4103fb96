pub mod NodeOrder
pub mod NetworkEqualityLaws
