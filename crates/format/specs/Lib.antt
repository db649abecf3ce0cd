pub mod Bytes
pub mod Words
pub mod Lines
pub mod Output
