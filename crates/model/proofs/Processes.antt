-- A state as a process of the calculus: its boxes, its items, its names.
pub mod ValueWords
pub mod KnownNames
pub mod Boxes
pub mod HandlerTerms
pub mod ItemFacts
pub mod StateTree
