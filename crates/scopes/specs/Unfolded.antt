-- The counts of what a term unfolds to, as the struct holds them.
use Rattle.std.specs.Prelude.{◌≡◌, ◌+◌, ◌≤◌}
use Rattle.model.specs.Table.{Term}
use Rattle.model.specs.Unfolding.{particles_in, boxes_in, new_names_in}
use Rattle.scopes.specs.declared.unfolded.Unfolded.{Unfolded}

-- the sum of two counts, field by field
abbrev pub sum_of : Unfolded → Unfolded → Unfolded
sum_of a b = record { particles = a.particles + b.particles; boxes = a.boxes + b.boxes; names = a.names + b.names }

-- at most 256 of each
pub record Few (r : Unfolded) : Type 0 where
  pub particles : r.particles ≤ 256
  pub boxes : r.boxes ≤ 256
  pub names : r.names ≤ 256

-- r has as many particles, boxes and new names as a term unfolds to
pub record UnfoldsTo (a : Term) (r : Unfolded) : Type 0 where
  pub particles : r.particles ≡ particles_in a
  pub boxes : r.boxes ≡ boxes_in a
  pub names : r.names ≡ new_names_in a
