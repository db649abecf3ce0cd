pub mod ByKind
pub mod AllSides
pub mod InState
