-- Laws of tests, names by their numbers, lists, sides by number, terms, environments; what load's checks say.
pub mod Tests
pub mod Names
pub mod Sides
pub mod Terms
pub mod Items
pub mod Environments
pub mod Checked
pub mod Splits
