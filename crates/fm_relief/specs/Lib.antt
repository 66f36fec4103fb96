pub mod Relief
pub mod inner
