pub mod Execution
pub mod Beginning
