pub mod NameLaws
pub mod ClearWalk
pub mod FreeUseLaws
pub mod ScopeBound
pub mod TermSize
pub mod UnfoldedLaws
