use mathlib.Core.Path.{sym, subst}
use mathlib.Core.List.{List, []}
use Prim.Native.Nat.{ℕ, ◌-◌}
use lib.ListN.{get_or}
use Rattle.model.specs.Basics.{Res}
use Rattle.model.specs.Load.{Setting}
use Rattle.model.specs.Step.{Moved, local, settled}
use Rattle.sides.specs.Sides.{core_of}
use Rattle.steps.specs.Asked.{known_by}
use Rattle.dispatch.specs.Stepping.{setting_of, asked, OwnReady}
use Rattle.dispatch.specs.Sharing.{shelves_in}
use Rattle.dispatch.proofs.ByKind.{own_sane, step_by, kind_is}
use Rattle.dispatch.proofs.AllSides.{at_still, at_moved}
use native.Mathlib.Omega.{arith}
use Rattle.dispatch.proofs.all_sides.side_step.Goals as goal
use Rattle.dispatch.proofs.all_sides.side_step.Goals.{After-place_of-k}

abbrev setting : After-place_of-k → Setting
setting p = let a = p.args in setting_of a.wrapper a.side a.nodes.now a.pool.now

-- the words of the side that makes the step
abbrev words : After-place_of-k → List ℕ
words p = get_or p.args.rows.now p.place_of-k.result []

-- what the model makes of the side's words l
abbrev move : After-place_of-k → (n : ℕ) → List ℕ → Res Moved
move p n l =
    let a = p.args in
    settled (local (setting p) (known_by a.marks.now) (shelves_in a.rows.now a.shelved) (core_of l a.o) (asked a.kind n a.i a.j a.words.now))

-- the side may make it
own : (p : After-place_of-k) → OwnReady (setting p) (words p) p.args.o
own p = subst (λ (j : ℕ). OwnReady (setting p) (get_or p.args.rows.now j []) p.args.o) (sym p.place_of-k.ensures) p.requires.4

pub taking-requires : goal.taking-requires
taking-requires c =
    let p = (goal.at.taking-requires c).After-place_of-k in
    (c.requires.0, omega (arith, c.place_of-k.ensures, c.requires.3), own_sane (setting p) (words p) c.args.o (own p), c.requires.5)

pub returns-then-kind-eq8 : goal.returns-then-kind-eq8
returns-then-kind-eq8 c =
    λ n.
    let a = c.args in
    let p = (goal.at.returns-then-kind-eq8 c).After-place_of-k in
    let eight = kind_is (setting p) (known_by a.marks.now) (shelves_in a.rows.now a.shelved) (core_of (words p) a.o) n a.i a.j a.words.now a.kind 8 c.if-kind-eq8.true in
    at_still (move p n) a.rows.now _ (a.side - 1) c.place_of-k.ensures a.o _ (step_by eight (c.taking.ensures a.nodes.now a.pool.now a.marks.now n))

pub own_step-requires : goal.own_step-requires
own_step-requires c = (own (goal.at.own_step-requires c).After-place_of-k, c.requires.1, c.if-kind-eq8.false)

pub returns : goal.returns
returns c =
    λ n.
    let a = c.args in
    let p = (goal.at.returns c).After-place_of-k in
    at_moved (move p n) a.rows.now _ (a.side - 1) c.place_of-k.ensures a.o _ _ (c.own_step.ensures (shelves_in a.rows.now a.shelved) n)
