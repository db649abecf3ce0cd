use mathlib.Core.Path.{◌≡◌, refl}
use lib.ListN.{length}
use Rattle.sides.proofs.Lists.{gap_view, fits_gap}
use Rattle.sides.specs.Views.{view_message, fits_message}
use native.Mathlib.Omega.{arith}
use Rattle.values.proofs.Lists.{unmap}
use Rattle.sides.proofs.Lobby.without.Goals as goal

pub returns : goal.returns
returns c =
    let l = c.args.self in
    let full : length l.msgs ≡ 16 = search unmap in
    let moved = c.copy_within.ensures.after in
    record {
      view = gap_view l.msgs _ c.args.i l.len c.requires.0 (omega arith) moved view_message;
      len = refl;
      fits = fits_gap fits_message l.msgs 16 full _ c.args.i l.len c.requires.0 c.requires.1 moved;
    }
