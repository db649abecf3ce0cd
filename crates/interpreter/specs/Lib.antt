pub mod Loaded
pub mod Answered
