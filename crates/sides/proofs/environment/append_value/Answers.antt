use mathlib.Core.Path.{◌≡◌, sym, subst}
use mathlib.Core.List.{List}
use Prim.Native.Nat.{ℕ, ◌+◌, ◌≤◌}
use lib.ListN.{length}
use lib.Seq.{sets}
use Rattle.sides.proofs.Reading.{last_is, last_none}
use Rattle.sides.proofs.Substituting.{slot_none, slot_size, slot_words}
use native.Mathlib.Omega.{arith}
use Rattle.sides.proofs.environment.append_value.Goals as goal

pub slice_bounds-append_words-end : goal.slice_bounds-append_words-end
slice_bounds-append_words-end c =
    let s = c.in-Some in
    let here = s.ensures.found.0 in
    omega (arith, slot_size c.args.e.now c.args.n c.args.w c.requires.1 c.requires.2 c.requires.3 s.k here)

pub append_words-requires : goal.append_words-requires
append_words-requires c =
    let s = c.in-Some in
    let same = slot_words c.args.e.now c.args.n c.args.w c.requires.1 c.requires.2 c.requires.3 s.k s.ensures.found.0 (last_is _ _ _ _ _ s.ensures.found.0 s.ensures.found.1 s.ensures.last) in
    (c.requires.0, subst (λ (y : List ℕ). c.args.m + length y ≤ 16) (sym same) c.requires.4)

pub append_words-requires-in-None : goal.append_words-requires-in-None
append_words-requires-in-None c =
    let same = slot_none c.args.e.now c.args.n c.args.w c.requires.1 c.requires.2 c.args.n (last_none _ _ _ c.args.n c.in-None.ensures.none) (omega arith) in
    (c.requires.0, subst (λ (y : List ℕ). c.args.m + length y ≤ 16) same c.requires.4)

pub returns-in-Some : goal.returns-in-Some
returns-in-Some c =
    let s = c.in-Some in
    let same = slot_words c.args.e.now c.args.n c.args.w c.requires.1 c.requires.2 c.requires.3 s.k s.ensures.found.0 (last_is _ _ _ _ _ s.ensures.found.0 s.ensures.found.1 s.ensures.last) in
    subst (λ (y : List ℕ). (c.append_words.result ≡ c.args.m + length y) × (c.append_words.new.v ≡ sets c.args.v.now (1 + c.args.m) y)) same c.append_words.ensures

pub returns-in-None : goal.returns-in-None
returns-in-None c =
    let same = slot_none c.args.e.now c.args.n c.args.w c.requires.1 c.requires.2 c.args.n (last_none _ _ _ c.args.n c.in-None.ensures.none) (omega arith) in
    let a = c.append_words-in-None in
    subst (λ (y : List ℕ). (a.result ≡ c.args.m + length y) × (a.new.v ≡ sets c.args.v.now (1 + c.args.m) y)) (sym same) a.ensures
