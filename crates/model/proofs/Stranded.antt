-- What is stranded: what the question lists, that the wrapper cannot move it, and that it is in the order of its arrival.
pub mod Listed
pub mod Stays
pub mod OldestFirst
