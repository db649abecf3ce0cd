-- Laws of a state: its sides by number, its counts, and the tables of the sides.
use mathlib.Core.Path.{◌≡◌, refl, ap, ap₂, subst, ◌∙◌}
use mathlib.Core.Bool.{Bool, true}
use mathlib.Core.List.{List, [], ◌∷◌, map}
use Prim.Native.Nat.{ℕ, zero, suc, ◌+◌, ◌<◌}
use native.Mathlib.Numerals.{add-one}
use native.Mathlib.Omega.{arith}
use borrow.Author.Tests.{eq-eqb}
use lib.ListN.{length, take, get_or, length-map}
use lib.Seq.{take-length}
use Rattle.model.specs.Basics.{every}
use Rattle.model.specs.Side.{no_side}
use Rattle.model.specs.Wrapper.{all_sides, described, has_side}
use Rattle.model.specs.Load.{Composition, no_table, table}
use Rattle.model.specs.WellFormed.{count_of, shelf_of, wf_side_of, wf_state}
use Rattle.model.proofs.Basics.Tests.{fst, snd}
use Rattle.tables.specs.Nodes as slices
use Rattle.tables.specs.Checks.{Passes}
use Rattle.wrappers.specs.Compositions.{tables_of, composition}
use Rattle.sides.specs.Layout.{view_place}
use Rattle.sides.specs.Layout as layout
use Rattle.sides.specs.Sides.{view_side, view_state, fits_side, fits_arrays}
use Rattle.sides.specs.declared.Side.{Side}
use Rattle.sides.specs.declared.State.{State}
use Rattle.sides.proofs.Reading.{shelf_count}
use Rattle.sides.proofs.Lists.{view_length, every_at, goes_on}
use Rattle.wellformed.specs.Clauses.{every_from, TablesPass, setting_of, side_stands, minted_in, shelved_in}
use Rattle.wellformed.proofs.TestLaws.{from_every, fits_count, map_at}
use Rattle.wellformed.proofs.SideLaws.{stands_is}

-- THE NUMBERS OF THE SIDES: n of them, from i on
abbrev up_from : ℕ → ℕ → List ℕ
up_from i zero = []
up_from i (suc n) = i ∷ up_from (i + 1) n

number_at : (i n k : ℕ) → k < n → get_or (up_from i n) k 0 ≡ k + i
number_at i zero k h = absurd (omega arith)
number_at i (suc n) zero h = omega arith
number_at i (suc n) (suc k) h = number_at (i + 1) n k (omega arith) ∙ omega arith

pub side_number : (k : ℕ) → k < length all_sides → get_or all_sides k 0 ≡ k + 1
side_number k h = number_at 1 (length all_sides) k h

-- THE TABLE OF A SIDE
table_at : (ns ps : List (List ℕ)) (k : ℕ) → k < length ns → k < length ps → get_or (tables_of ns ps) k no_table ≡ slices.table (get_or ns k []) (get_or ps k [])
unfolding tables_of
table_at [] ps k h m = absurd (omega arith)
table_at (n ∷ ns) [] k h m = absurd (omega arith)
table_at (n ∷ ns) (p ∷ ps) zero h m = refl
table_at (n ∷ ns) (p ∷ ps) (suc k) h m = table_at ns ps k (omega arith) (omega arith)

-- THE COUNTS of a state
minted_in_lem : (l : List Side) → map (λ o. o.core.contents.minted) (map view_side l) ≡ map (λ o. o.rest.minted) l
minted_in_lem [] = refl
minted_in_lem (o ∷ l) = ap (λ (r : List ℕ). o.rest.minted ∷ r) (minted_in_lem l)

shelved_in_lem : (l : List Side) → every (λ o. fits_side o.words o.rest) l ≡ true → (n : ℕ) →
    length (get_or (map view_side l) n no_side).core.shelf ≡ get_or (map (λ o. o.rest.shelved) l) n 0
shelved_in_lem [] e n = refl
shelved_in_lem (o ∷ l) e zero =
    let fits = snd _ _ (snd _ _ (snd _ _ (fst _ _ e))) in
    view_length view_place (layout.shelf_of o.words) o.rest.shelved
    (fits_count layout.fits_place (layout.shelf_of o.words) o.rest.shelved 32 (shelf_count o.words) fits)
shelved_in_lem (o ∷ l) e (suc n) = shelved_in_lem l (snd _ _ e) n

shelves_count : (s : State) → fits_arrays s ≡ true → (n : ℕ) → length (shelf_of (view_state s) n) ≡ count_of (shelved_in s) n
shelves_count s e zero = refl
shelves_count s e (suc n) = shelved_in_lem s.sides e n

-- ALL SIDES, by a test of each number; the place is not asked for
abbrev pub stands_at : Composition → State → ℕ → ℕ → Bool
stands_at b s j n = wf_side_of b (view_state s) n

pub state_is : (b : Composition) (s : State) → length s.sides ≡ length all_sides → every_from (stands_at b s) 0 all_sides ≡ wf_state b (view_state s)
unfolding wf_state
state_is b s e =
    let count : length (map view_side s.sides) ≡ length all_sides = length-map s.sides view_side ∙ e in
    goes_on _ _ _ (eq-eqb _ _ count) (from_every (wf_side_of b (view_state s)) 0 all_sides)

-- as many references to nodes and to pools as there are sides, and as many sides in the state
pub record Places {R : Type 0} (ns ps : List R) (s : State) : Type 0 where
  pub nodes : length ns ≡ length all_sides
  pub pools : length ps ≡ length all_sides
  pub sides : length s.sides ≡ length all_sides

-- ONE SIDE, at place k: v is what stands behind a reference, n the side's number
module _ {R : Type 0} (v : R → List ℕ) (w : ℕ) (ns ps : List R) (s : State) (full : Places ns ps s) (k : ℕ) (h : k < length all_sides) where
  abbrev b : Composition
  b = composition w (map v ns) (map v ps)

  table_lent : (d e : R) → table b (suc k) ≡ slices.table (v (get_or ns k d)) (v (get_or ps k e))
  table_lent d e =
      let i : k < length ns = omega (arith, full.nodes, h) in
      let j : k < length ps = omega (arith, full.pools, h) in
      table_at (map v ns) (map v ps) k (rw (length-map ns v) i) (rw (length-map ps v) j) ∙ ap₂ slices.table (map_at v ns k d [] i) (map_at v ps k e [] j)

  pub table_passes : TablesPass b → (d e : R) (n : ℕ) → n ≡ k + 1 → has_side (described w) n ≡ true → Passes (slices.table (v (get_or ns k d)) (v (get_or ps k e)))
  table_passes p d e n z has =
      let next : n ≡ suc k = z ∙ add-one k in
      subst Passes (table_lent d e) (p (suc k) (subst (λ (i : ℕ). has_side (described w) i ≡ true) next has))

  module _ (fits : fits_arrays s ≡ true) (d : Side) where
    inside : k < length s.sides
    inside = omega (arith, full.sides, h)

    abbrev fitting : Side → Bool
    fitting o = fits_side o.words o.rest

    pub side_within : fitting (get_or s.sides k d) ≡ true
    side_within =
        let all : every fitting (take (length s.sides) s.sides) ≡ true = ap (every fitting) (take-length s.sides) ∙ fits in
        every_at fitting s.sides (length s.sides) k d inside (omega arith) all

    -- the answer for it, from the counts x and y that are gathered
    pub side_answer : (p q : R) (n : ℕ) → n ≡ k + 1 → (x y : List ℕ) → x ≡ minted_in s → y ≡ shelved_in s → (r : Bool) →
        r ≡ side_stands (setting_of w n (slices.table (v (get_or ns k p)) (v (get_or ps k q)))) x y (view_side (get_or s.sides k d)) → r ≡ stands_at b s k (get_or all_sides k 0)
    unfolding wf_side_of
    side_answer p q n z x y e f r a =
        let t = slices.table (v (get_or ns k p)) (v (get_or ps k q)) in
        let o = get_or s.sides k d in
        let number : get_or all_sides k 0 ≡ suc k = side_number k h ∙ add-one k in
        let here : get_or (map view_side s.sides) k no_side ≡ view_side o = map_at view_side s.sides k d no_side inside in
        let lent : get_or (tables_of (map v ns) (map v ps)) k no_table ≡ t = table_lent p q in
        let stands = stands_is (setting_of w (suc k) t) (minted_in s) (shelved_in s) (view_side o) (shelf_of (view_state s)) (shelves_count s fits) in
        a ∙ rw (e, f, z, add-one k, number) (stands ∙ rw (here, lent, minted_in_lem s.sides))
