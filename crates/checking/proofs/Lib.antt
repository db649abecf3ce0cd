pub mod LabelLaws
pub mod CheckLaws
