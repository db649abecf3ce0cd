use mathlib.Core.Path.{◌∙◌}
use Rattle.std.proofs.Common.{rules, tests}
use Rattle.std.proofs.lemmas.Iterator.{YieldsList-from_slice}
use Rattle.std.proofs.lemmas.Iterator.Search.{all_from_yields_List}
use lib.ListN.{take}
use Rattle.sides.specs.Views.{fits_message}
use Rattle.sides.proofs.Lists.{and_then, and_else, all_every}
use Rattle.sides.proofs.Lobby.fits.Goals as goal

pub returns-then-lobby_within : goal.returns-then-lobby_within
returns-then-lobby_within c =
    let held = take c.args.self.len c.args.self.msgs in
    let all = all_from_yields_List fits_message _ _ _ c.all.ensures.ran (YieldsList-from_slice held cc) (λ x b q k. search (rules, tests)) in
    and_then _ _ c.lobby_within.ensures c.if-lobby_within.true (all ∙ all_every fits_message held)

pub returns-else-lobby_within : goal.returns-else-lobby_within
returns-else-lobby_within c = and_else _ _ c.lobby_within.ensures c.if-lobby_within.false
