pub mod Fits
pub mod Long
pub mod Inputs
pub mod Matching
pub mod Named
