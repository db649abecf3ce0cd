use mathlib.Core.Path.{◌≡◌, refl}
use lib.ListN.{length}
use Rattle.sides.proofs.Lists.{view_set, fits_put}
use Rattle.sides.specs.Views.{view_message, fits_message}
use Rattle.values.proofs.Lists.{unmap}
use Rattle.sides.proofs.Lobby.replaced.Goals as goal

pub returns : goal.returns
returns c =
    let l = c.args.self in
    let full : length l.msgs ≡ 16 = search unmap in
    record { view = view_set view_message l.msgs l.len c.args.i _ c.requires.0; len = refl; fits = fits_put fits_message l.msgs 16 full l.len c.args.i _ c.requires.0 }
