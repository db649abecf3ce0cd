pub mod MeetSteps
pub mod Settings
pub mod Inputs
pub mod PairLaws
pub mod Joining
pub mod Removing
pub mod Meetings
