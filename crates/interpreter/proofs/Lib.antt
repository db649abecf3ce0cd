pub mod LoadLaws
pub mod StepLaws
pub mod StrandedLaws
