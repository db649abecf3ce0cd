-- A side at its start: it can unfold, and what it is then.
use mathlib.Core.Path.{◌≡◌, refl, sym, ap, ◌∙◌}
use mathlib.Core.Logic.{⊎_elim}
use mathlib.Core.Bool.{Bool, true, false, ◌||◌, false≢true}
use mathlib.Core.List.{List, [], ◌∷◌}
use Prim.Native.Nat.{ℕ, zero, suc, ◌-◌, ◌<◌, ◌≤◌}
use native.Mathlib.Omega.{arith}
use borrow.Author.Tests.{eqb-true, leb-true, le-leb, not-true}
use lib.Dec.{eqb}
use lib.ListN.{length}
use Rattle.model.specs.Basics.{has}
use Rattle.model.specs.Values.{no_names}
use Rattle.model.specs.Table.{Table, term}
use Rattle.model.specs.Side.{Box, Message, Contents, Core, empty_contents, start_side}
use Rattle.model.specs.Unfolding.{unfolds}
use Rattle.model.specs.Wrapper.{all_sides, filter, described, has_side}
use Rattle.model.specs.Load.{Setting, start}
use Rattle.model.specs.WellFormed.{Counts, count_of, wf_side}
use Rattle.model.proofs.Basics.Tests.{fst, snd, both, or_cases}
use Rattle.model.proofs.Formed.Growing.{core_ok}
use Rattle.model.proofs.Formed.Invariant.{core_short}
use Rattle.model.proofs.Formed.Starts.{start_side_lem}
use Rattle.scopes.proofs.ScopeBound.{passes_checked}
use Rattle.model.proofs.Formed.Invariant.{which}
use Rattle.sides.specs.declared.Rest.{Rest}
use Rattle.sides.specs.Layout.{view_boxes}
use Rattle.sides.specs.Stored.{box_put}
use Rattle.sides.specs.Sides.{core_of, fits_side, Nothing}
use Rattle.sides.proofs.Storing.{box_length}
use Rattle.sides.proofs.Behind.{box_view}
use Rattle.environments.specs.Long.{long_in}
use Rattle.unfolding.specs.declared.Counts as c
use Rattle.unfolding.specs.Unfolded.{counted, CanUnfold, UnfoldedIs, put_counts}
use Rattle.unfolding.proofs.ShortAfter.{short_unfolds}
use Rattle.loading.specs.Starting.{Startable, StartIs}
use Rattle.loading.proofs.Faults.{root_in, start_added}

-- a side's number
pub number_in : (i : ℕ) → has i all_sides ≡ true → (0 < i) × (i ≤ 2)
number_in i h =
    ⊎_elim (λ e. let z = eqb-true i 1 e in (omega arith, omega arith))
    (λ p. ⊎_elim (λ e. let z = eqb-true i 2 e in (omega arith, omega arith)) (λ e. absurd (false≢true e)) (or_cases (eqb i 2) false p)) (or_cases (eqb i 1) (eqb i 2 || false) h)

-- a side that the wrapper has: its number, and its place
pub has_number : (w i : ℕ) → has_side (described w) i ≡ true → (0 < i) × (i ≤ length all_sides)
has_number w i h = number_in i (which w i h)

pub has_place : (w i : ℕ) → has_side (described w) i ≡ true → i - 1 < length all_sides
has_place w i h = let n = has_number w i h in omega (arith, n.0, n.1)

-- no output is too long
start_short : (i : ℕ) (t : Table) → Startable i t → long_in (term t 0) no_names ≡ false
unfolding wf_side start
start_short i t h =
    let c : Setting = record { wrapper = filter; side = i; table = t } in
    let n = (start i t).minted in
    let k : Counts = n ∷ n ∷ [] in
    let w = start_side_lem c k (λ m. []) (passes_checked t h.passes) h.side (own i n (number_in i h.side)) h.few in
    let o = core_ok c k (start_side (start i t)).core (fst _ _ w) in
    not-true _ (sym (short_unfolds i (term t 0) no_names refl 0 empty_contents refl) ∙ core_short c k (start_side (start i t)).core o)
  where
    own : (i n : ℕ) → (0 < i) × (i ≤ 2) → count_of (n ∷ n ∷ []) i ≡ n
    own zero n h = let z = h.0 in absurd (omega arith)
    own (suc zero) n h = refl
    own (suc (suc zero)) n h = refl
    own (suc (suc (suc i))) n h = let z = h.1 in absurd (omega arith)

-- what the walk starts with: box 0
abbrev pub first : c.Counts
first = record { particles = 0; boxes = 1; minted = 0 }

pub can_start : (i : ℕ) (t : Table) (l e : List ℕ) → Startable i t → length l ≡ 5184 → length e ≡ 144 → CanUnfold t i 0 0 e 0 (box_put l 0 0 0) first
can_start i t l e h long wide =
    let d = start_added i t in
    let few : length (start i t).particles ≤ 32 = leb-true _ _ (fst _ _ h.few) in
    let few_boxes : length (start i t).boxes ≤ 16 = leb-true _ _ (fst _ _ (snd _ _ h.few)) in
    let few-names : (start i t).minted ≤ 256 = leb-true _ _ (snd _ _ (snd _ _ h.few)) in
    let n = number_in i h.side in
    record {
      narrow = omega (arith, n.1);
      scoped = record { passes = h.passes; inside = root_in t h.passes; names = omega arith };
      short = start_short i t h;
      particles = omega (arith, d.particles);
      boxes = omega (arith, d.boxes);
      minted = omega (arith, d.minted);
      place = omega arith;
      long = box_length l 0 0 0 ∙ long;
      width = wide;
      values = refl;
      fits = both _ _ refl refl;
    }

-- the side that it then is
pub start_is : (i : ℕ) (t : Table) (l w e f m : List ℕ) (u : c.Counts) (o r : Rest) → Startable i t → length l ≡ 5184 → w ≡ box_put l 0 0 0 → UnfoldedIs i (term t 0) 0 e 0 w first f m u → Nothing o → r ≡ put_counts o u → StartIs i t m r
unfolding start
start_is i t l w e f m u o r h long we is none z =
    let from : counted w first ≡ empty_contents = ap (λ (b : List Box). record { particles = []; boxes = b; minted = 0 }) (ap (λ (x : List ℕ). view_boxes x 1) we ∙ box_view l 0 0 0 long (omega arith)) in
    let to : counted m u ≡ start i t = is.view ∙ ap (unfolds i (term t 0) no_names 0) from in
    let old = none.core m in
    let d = start_added i t in
    let few_boxes : length (start i t).boxes ≤ 16 = leb-true _ _ (fst _ _ (snd _ _ h.few)) in
    let few : u.boxes ≤ 16 = omega (arith, is.boxes, d.boxes) in
    record {
      core = ap (core_of m) z ∙ same_core to (ap (λ (c : Core). (c).lobby) old) (ap (λ (c : Core). (c).shelf) old) (ap (λ (c : Core). (c).taken) old);
      arrays = ap (fits_side m) z ∙ both _ _ is.fits (both _ _ (le-leb u.boxes 16 few) (snd _ _ (snd _ _ (none.fits m))));
      long = is.long ∙ ap length we ∙ box_length l 0 0 0 ∙ long;
    }
  where
    same_core : {c d : Contents} {x y : List Message} {a b : List (List ℕ)} {p q : List Bool} → c ≡ d → x ≡ y → a ≡ b → p ≡ q →
        ◌≡◌ {A = Core} (record { contents = c; lobby = x; shelf = a; taken = p }) (record { contents = d; lobby = y; shelf = b; taken = q })
    same_core e f g h = rw (e, f, g, h)
