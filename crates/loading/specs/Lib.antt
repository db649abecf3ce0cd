pub mod Loading
pub mod Starting
