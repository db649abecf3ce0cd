pub mod TestLaws
pub mod ListLaws
pub mod ParticleLaws
pub mod SideLaws
pub mod StateLaws
