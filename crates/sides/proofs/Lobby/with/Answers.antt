use mathlib.Core.Path.{◌≡◌, refl}
use lib.ListN.{length}
use Rattle.sides.proofs.Lists.{view_push, fits_with}
use Rattle.sides.specs.Views.{view_message, fits_message}
use native.Mathlib.Omega.{arith}
use Rattle.values.proofs.Lists.{unmap}
use Rattle.sides.proofs.Lobby.with.Goals as goal

pub returns : goal.returns
returns c =
    let l = c.args.self in
    let full : length l.msgs ≡ 16 = search unmap in
    record { view = view_push view_message l.msgs l.len _ (omega arith); len = refl; fits = fits_with fits_message l.msgs 16 full l.len _ c.requires }
