pub mod LineValues
