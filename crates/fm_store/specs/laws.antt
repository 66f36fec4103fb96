pub mod NoneTaken
