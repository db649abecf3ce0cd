pub mod Lists
pub mod Words
pub mod Spans
pub mod Matches
pub mod Storing
pub mod Names
pub mod Environments
