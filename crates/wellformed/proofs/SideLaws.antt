-- Laws of a side: its core, its marks, and one that the wrapper lacks.
use mathlib.Core.Path.{◌≡◌, refl, sym, ap, ◌∙◌}
use mathlib.Core.Bool.{Bool, true, false, cond}
use mathlib.Core.List.{List, map}
use Prim.Native.Nat.{ℕ, ◌*◌, ◌≤◌}
use native.Mathlib.Omega.{arith}
use borrow.Author.Tests.{le-leb, eq-eqb}
use lib.Dec.{leb, eqb}
use lib.ListN.{length, take, length-map, length-take}
use Rattle.model.specs.Basics.{◌&◌, every}
use Rattle.model.specs.Table.{Table}
use Rattle.model.specs.Side.{Contents, Core, Side, limits}
use Rattle.model.specs.Wrapper.{all_sides, has_side, shelves, takes_any}
use Rattle.model.specs.Load.{Setting}
use Rattle.model.specs.WellFormed.{Counts, count_of, wf_message, wf_particle, wf_boxes, wf_contents, wf_core, wf_left, wf_side, clear, is_no_side}
use Rattle.sides.specs.Views.{view_message}
use Rattle.sides.specs.Layout.{rows_of, view_row, boxes_of, view_box, shelf_of, view_place}
use Rattle.sides.specs.Sides.{core_of}
use Rattle.sides.specs.declared.Rest.{Rest}
use Rattle.sides.proofs.Reading.{rows_count, boxes_count, shelf_count}
use Rattle.wellformed.specs.Clauses.{shelf_allowed, all_zero, side_fits, side_stands}
use Rattle.wellformed.proofs.TestLaws.{swap}
use Rattle.wellformed.proofs.ListLaws.{taken_from}

and_assoc : (a b c : Bool) → (a & b) & c ≡ a & (b & c)
unfolding ◌&◌
and_assoc true b c = refl
and_assoc false b c = refl

-- CONTENTS with nb boxes
pub contents_is : (t : Table) (k : Counts) (s : Contents) (nb : ℕ) → length s.boxes ≡ nb →
    (leb 1 nb & wf_boxes k 0 s.boxes) & every (wf_particle t k nb) s.particles ≡ wf_contents t k s
unfolding wf_contents
contents_is t k s nb e =
    and_assoc (leb 1 nb) (wf_boxes k 0 s.boxes) _ ∙ ap (λ (n : ℕ). leb 1 n & (wf_boxes k 0 s.boxes & every (wf_particle t k n) s.particles)) (sym e)

-- A CORE whose lists are within their limits
pub record Within (s : Core) : Type 0 where
  pub particles : length s.contents.particles ≤ 32
  pub boxes : length s.contents.boxes ≤ 16
  pub lobby : length s.lobby ≤ 16
  pub shelf : length s.shelf ≤ 32

-- an array's list is no longer than the array
few : {A B : Type 0} (v : A → B) (l : List A) (n cap : ℕ) → length l ≡ cap → length (map v (take n l)) ≤ cap
few v l n cap full = omega (arith, full, length-map (take n l) v, length-take n l)

pub within_arrays : (words : List ℕ) (o : Rest) → length o.lobby.msgs ≡ 16 → Within (core_of words o)
within_arrays words o full =
    record {
      particles = few view_row (rows_of words) o.particles 32 (rows_count words);
      boxes = few view_box (boxes_of words) o.boxes 16 (boxes_count words);
      lobby = few view_message o.lobby.msgs o.lobby.len 16 full;
      shelf = few view_place (shelf_of words) o.shelved 32 (shelf_count words);
    }

pub core_is : (c : Setting) (k : Counts) (s : Core) (b : Bool) (cs : List ℕ) → b ≡ shelves c.wrapper c.side → c.wrapper.copies ≡ cs → Within s →
    ((leb s.contents.minted 256 & wf_contents c.table k s.contents) & every (wf_message b cs k) s.lobby) & shelf_allowed b k s.shelf ≡ wf_core c k s
unfolding wf_core limits shelf_allowed ◌&◌
core_is c k s b cs e g w =
    rw (
      ← e,
      g,
      le-leb (length s.contents.particles) 32 w.particles,
      le-leb (length s.contents.boxes) 16 w.boxes,
      le-leb (length s.lobby) 16 w.lobby,
      le-leb (length s.shelf) 32 w.shelf,
    )
    (go (leb s.contents.minted 256) (wf_contents c.table k s.contents) _ _)
  where
    go : (a x y z : Bool) → ((a & x) & y) & z ≡ (a & true) & (x & (y & z))
    go true true y z = refl
    go true false y z = refl
    go false x y z = refl

-- A SIDE with its marks
module _ (c : Setting) (k h : Counts) (s : Side) where
  -- by the lists on the shelves, or by how many values they have
  pub stands_is : (sh : ℕ → List (List ℕ)) → ((n : ℕ) → length (sh n) ≡ count_of h n) →
      side_stands c k h s ≡ cond (has_side c.wrapper c.side) (wf_side c k sh s) (is_no_side s)
  unfolding side_stands side_fits wf_side
  stands_is sh e =
      let test : Bool → Bool =
      λ x. wf_core c k s.core & ((eqb (length s.left) (256 * length all_sides) & wf_left k 0 s.left) & (eqb (length s.core.taken) (32 * length all_sides) & x)) in
      let taken = taken_from (takes_any c.wrapper c.side) h sh e 0 s.core.taken in
      ap (λ (x : Bool). cond (has_side c.wrapper c.side) (test x) (is_no_side s)) taken

-- A SIDE THAT IS NOTHING: a particles, b boxes, l messages and h values
pub no_side_is : (s : Side) (a b l h : ℕ) → eqb (length s.core.contents.particles) 0 ≡ eqb a 0 → eqb (length s.core.contents.boxes) 0 ≡ eqb b 0 →
    eqb (length s.core.lobby) 0 ≡ eqb l 0 → eqb (length s.core.shelf) 0 ≡ eqb h 0 →
    length s.left ≡ 256 * length all_sides → length s.core.taken ≡ 32 * length all_sides →
    all_zero a b s.core.contents.minted l h & (clear s.left & clear s.core.taken) ≡ is_no_side s
unfolding is_no_side all_zero ◌&◌
no_side_is s a b l h p q m n f t =
    rw (p, q, m, n, eq-eqb (length s.core.taken) (32 * length all_sides) t, eq-eqb (length s.left) (256 * length all_sides) f)
    (go (eqb a 0) (eqb b 0) (eqb s.core.contents.minted 0) (eqb l 0) (eqb h 0) (clear s.left) (clear s.core.taken))
  where
    go : (a b c d h x y : Bool) → (a & (b & (c & (d & h)))) & (x & y) ≡ a & (b & (c & (d & (true & (x & (h & (true & y)))))))
    go false b c d h x y = refl
    go true false c d h x y = refl
    go true true false d h x y = refl
    go true true true false h x y = refl
    go true true true true h x y = swap h x y
