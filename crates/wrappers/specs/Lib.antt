pub mod Routes
pub mod Compositions
pub mod Copies
