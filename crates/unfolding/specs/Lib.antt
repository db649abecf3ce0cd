pub mod Scoped
pub mod Unfolded
