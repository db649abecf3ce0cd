pub mod Slots
pub mod Sizes
pub mod LongWalk
pub mod TupleNames
pub mod Waiting
pub mod Patterns
pub mod Bindings
