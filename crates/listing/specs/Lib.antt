pub mod Listing
pub mod ListTrials
