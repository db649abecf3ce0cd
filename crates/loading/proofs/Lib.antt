pub mod Faults
pub mod Starting
