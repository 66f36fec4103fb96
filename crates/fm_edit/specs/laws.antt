pub mod DeferringLaws
pub mod KeeperLaws
