pub mod WrittenLaws
pub mod DecimalLaws
pub mod FieldLaws
pub mod LineLaws
pub mod AnswerLaws
