pub mod Records
pub mod Steps
pub mod Labels
pub mod Verdicts
pub mod Published
pub mod ClaimTrials
