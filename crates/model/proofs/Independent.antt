-- Demand 3: a closed group of sides does not depend on the others.
pub mod Independence
