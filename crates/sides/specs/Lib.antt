pub mod Views
pub mod Holding
pub mod Layout
pub mod Stored
pub mod Environments
pub mod Sides
