pub mod Claims
pub mod Verdicts
pub mod Published
pub mod ClaimTrials
