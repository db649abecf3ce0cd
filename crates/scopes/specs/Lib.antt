pub mod Names
pub mod FreeUses
pub mod Unfolded
