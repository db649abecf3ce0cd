-- What is computed, and what follows: trials, purity, the names brought, runs of the wrappers themselves, the new-name rule.
pub mod Trials
pub mod FormedStates
pub mod Purity
pub mod Brought
pub mod Corollaries
pub mod WrapperRuns
pub mod NewNames
