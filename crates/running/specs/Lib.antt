pub mod Running
pub mod Runs
