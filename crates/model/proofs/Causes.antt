-- Document 01's table of causes: the lowest cause that applies is given.
pub mod CauseTools
pub mod StepCauses
pub mod MeetCauses
pub mod LowestStep
pub mod ScopeCauses
pub mod ItemCauses
pub mod LoadCauses
pub mod LowestLoad
