use Rattle.sides.proofs.Reading.{place_short, value_read}
use native.Mathlib.Omega.{arith}
use Rattle.sides.proofs.places.value_in.Goals as goal

pub slice_bounds-of-end : goal.slice_bounds-of-end
slice_bounds-of-end c = omega (arith, place_short c.args.v.now c.requires.1)

pub returns : goal.returns
returns c = value_read c.args.v.now _ c.requires.0 c.requires.1 c.of.ensures
