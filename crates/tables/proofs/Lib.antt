pub mod WalkLaws
pub mod PoolLaws
pub mod FieldLaws
pub mod ScopeLaws
pub mod CheckLaws
