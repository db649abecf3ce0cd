pub mod BeginLaws
pub mod RecordEnds
pub mod StepsMade
