pub mod PartLaws
pub mod NumberLaws
