pub mod LongLaws
pub mod Standing
pub mod Adding
pub mod Walking
pub mod ShortAfter
