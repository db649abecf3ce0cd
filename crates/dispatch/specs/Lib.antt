pub mod Stepping
pub mod Sharing
