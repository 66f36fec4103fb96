pub mod Renewing
pub mod WorldSteps
pub mod OwnNews
pub mod VerdictText
pub mod StreamSteps
pub mod Sessions
pub mod Storing
pub mod inner
