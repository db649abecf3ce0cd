-- What is ready stays ready, and a refusal changes nothing.
pub mod Growing
pub mod Keeping
pub mod UnfoldingKeeps
pub mod Counts
pub mod MeetingKeeps
pub mod Invariant
pub mod Starts
pub mod Reached
pub mod Refusals
