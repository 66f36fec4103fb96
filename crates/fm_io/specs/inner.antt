pub mod HeldTexts
pub mod GroupSteps
