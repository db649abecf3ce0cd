pub mod Stranding
pub mod Ending
