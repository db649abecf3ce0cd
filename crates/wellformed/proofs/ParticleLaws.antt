-- Laws of outputs and waiting inputs, by their rows.
use mathlib.Core.Path.{◌≡◌, refl, sym, ap, ◌∙◌}
use mathlib.Core.Logic.{◌≢◌}
use mathlib.Core.Bool.{Bool, true, false}
use mathlib.Core.List.{List, []}
use Prim.Native.Nat.{ℕ, ◌<◌, ◌≤◌}
use borrow.Author.Tests.{lt-ltb, le-ltb, eq-eqb, ne_eqb, eqb-true, eqb-false}
use lib.Dec.{leb, ltb, eqb}
use lib.ListN.{length, get_or}
use Rattle.model.specs.Basics.{◌&◌, every}
use Rattle.model.specs.Table.{Table, scope, kind, count}
use Rattle.model.specs.WellFormed.{Counts, wf_value, wf_particle}
use Rattle.tables.specs.Checks.{Passes}
use Rattle.scopes.specs.Names.{last_eight}
use Rattle.scopes.proofs.ScopeBound.{scope_whole}
use Rattle.sides.proofs.Lists.{stops, goes_on, view_length}
use Rattle.sides.specs.Layout.{row_at, places_of, view_place, fits_place, view_row, fits_row}
use Rattle.sides.proofs.Reading.{places_count, first_place, first_fits}
use Rattle.sides.proofs.Viewing.{output_view, input_view, held_count}
use Rattle.environments.specs.Inputs.{node_of, values_of, Waits}
use Rattle.wellformed.specs.Clauses.{RowFits, output_held, input_defined, values_fit, input_waits}
use Rattle.wellformed.proofs.TestLaws.{swap}

-- an output's value is in its first place
pub output_fits : (r : List ℕ) → fits_row r ≡ true → get_or r 0 0 ≡ 1 → fits_place (get_or (places_of r) 0 []) ≡ true
output_fits r f e = ap fits_place (first_place r) ∙ first_fits r f e

-- A WAITING INPUT AT A NODE: as many values as names in force
module _ (r : List ℕ) (m : get_or r 0 0 ≢ 1) (f : fits_row r ≡ true) where
  pub value_few : get_or r 6 0 ≤ length (places_of r)
  value_few = rw (places_count r) (held_count r m f)

  value_count : length (values_of r) ≡ get_or r 6 0
  value_count = view_length view_place (places_of r) (get_or r 6 0) value_few

  module _ (t : Table) (p : Passes t) (h : node_of r < count t) where
    -- n values, and c names that the search finds at node k
    module _ (n c k : ℕ) (v : List ℕ) (a : n ≡ get_or r 6 0) (b : k ≡ node_of r) (d : v ≡ last_eight (scope t k)) (e : c ≡ length v) where
      found : c ≡ length (scope t (node_of r))
      found = e ∙ ap length (d ∙ ap (λ (i : ℕ). last_eight (scope t i)) b ∙ scope_whole t p (node_of r) h)

      pub value_each : n ≡ c → length (values_of r) ≡ length (scope t (node_of r))
      value_each q = value_count ∙ sym a ∙ q ∙ found

      pub value_lacks : (n ≡ c → ⊥) → false ≡ values_fit t r
      unfolding values_fit
      value_lacks q = stops _ _ (ne_eqb (length (values_of r)) (length (scope t (node_of r))) (λ z. q (a ∙ sym value_count ∙ z ∙ sym found)))

      pub value_fits : n ≡ c → (x : Bool) → x ≡ input_defined t r → x ≡ values_fit t r
      unfolding values_fit
      value_fits q x g = goes_on _ _ _ (eq-eqb (length (values_of r)) (length (scope t (node_of r))) (value_each q)) g

pub waits : (t : Table) (words : List ℕ) (i : ℕ) → Passes t → RowFits words i → get_or (row_at words i) 0 0 ≢ 1 → node_of (row_at words i) < count t →
    length (values_of (row_at words i)) ≡ length (scope t (node_of (row_at words i))) → Waits t words i
waits t words i p f m h e = record { passes = p; long = f.long; row = f.row; input = m; fits = f.fits; inside = h; each = e }

-- A ROW: its box, then by its kind
module _ (t : Table) (k : Counts) (nb : ℕ) (r : List ℕ) where
  output_is : get_or r 0 0 ≡ 1 → ltb (get_or r 1 0) nb & output_held k r ≡ wf_particle t k nb (view_row r)
  unfolding output_held wf_particle
  output_is e = ap (wf_particle t k nb) (sym (output_view r e))

  input_is : get_or r 0 0 ≢ 1 → ltb (get_or r 1 0) nb & input_waits t k r ≡ wf_particle t k nb (view_row r)
  unfolding input_waits values_fit wf_particle
  input_is m =
      ap (λ (x : Bool). ltb (get_or r 1 0) nb & (ltb (node_of r) (count t) & (leb 5 (kind t (node_of r)) & x))) (swap (every (wf_value k) (values_of r)) _ _) ∙
      ap (wf_particle t k nb) (sym (input_view r m))

  module _ (b : ℕ) (e : b ≡ get_or r 1 0) where
    pub row_far : nb ≤ b → false ≡ wf_particle t k nb (view_row r)
    row_far h = go (eqb (get_or r 0 0) 1) refl
      where
        far : ltb (get_or r 1 0) nb ≡ false
        far = le-ltb (get_or r 1 0) nb (rw e at h)

        go : (x : Bool) → eqb (get_or r 0 0) 1 ≡ x → false ≡ wf_particle t k nb (view_row r)
        go true q = stops _ _ far ∙ output_is (eqb-true _ _ q)
        go false q = stops _ _ far ∙ input_is (eqb-false _ _ q)

    module _ (h : b < nb) (x : Bool) where
      near : ltb (get_or r 1 0) nb ≡ true
      near = lt-ltb (get_or r 1 0) nb (rw e at h)

      pub row_output : get_or r 0 0 ≡ 1 → x ≡ output_held k r → x ≡ wf_particle t k nb (view_row r)
      row_output m q = goes_on _ _ _ near q ∙ output_is m

      pub row_input : get_or r 0 0 ≢ 1 → x ≡ input_waits t k r → x ≡ wf_particle t k nb (view_row r)
      row_input m q = goes_on _ _ _ near q ∙ input_is m
