pub mod PlaceLaws
pub mod SliceLaws
pub mod WordLaws
pub mod ByteLaws
pub mod FlagLaws
pub mod FirstLaws
pub mod SearchLaws
