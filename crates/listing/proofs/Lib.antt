pub mod ListLaws
pub mod ListNumbers
pub mod ListTrials
