pub mod StepWords
pub mod AnswerWords
