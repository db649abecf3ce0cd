-- The environment of a waiting input: how its words come about, and what they are.
use mathlib.Core.Path.{◌≡◌, refl, sym, ap, ap₂, ◌∙◌}
use mathlib.Core.Bool.{Bool, true, false}
use mathlib.Core.List.{List, ◌++◌, map}
use Prim.Native.Nat.{ℕ, ◌-◌, ◌≤◌, min}
use native.Mathlib.Nat.{zero-add}
use native.Mathlib.Omega.{arith}
use borrow.Author.Tests.{leb-true, leb-false}
use lib.Dec.{leb}
use lib.ListN.{length, take, drop, get_or, length-drop, length-map, drop_of_length-le}
use lib.Seq.{sets, sets-eq, length-sets, length-take-le, take_all}
use Rattle.model.specs.Values.{Env}
use Rattle.model.specs.Table.{Table, scope}
use Rattle.model.specs.WellFormed.{env_at}
use Rattle.scopes.specs.Names.{last_eight}
use Rattle.scopes.proofs.NameLaws.{last_at_most}
use Rattle.scopes.proofs.ScopeBound.{scope_whole}
use Rattle.sides.specs.Layout.{row_at, places_of, view_place}
use Rattle.sides.specs.Stored.{values_put}
use Rattle.sides.specs.Environments.{env_of}
use Rattle.sides.proofs.Sets.{mid_sets}
use Rattle.sides.proofs.Parts.{part_length}
use Rattle.sides.proofs.Storing.{values_length}
use Rattle.sides.proofs.Reading.{places_count}
use Rattle.sides.proofs.Viewing.{held_count, held_values, values_env, values_fit_lem}
use Rattle.environments.specs.Fits.{Fits}
use Rattle.environments.specs.Inputs.{node_of, values_of, Waits, names_put, InputEnvIs}

-- NAMES COPIED: those from `top` on, one after another
module _ (s : List ℕ) (top k : ℕ) (full : length s ≡ 8) (z : k ≡ min top 8) where
  pub names_taken : take (length s - k) (drop k s) ≡ drop top s
  names_taken = take_all (length s - k) (drop k s) (omega (arith, length-drop k s)) ∙ go (leb top 8) refl
    where
      go : (b : Bool) → leb top 8 ≡ b → drop k s ≡ drop top s
      go true t = let same : k ≡ top = omega (arith, leb-true top 8 t) in ap (λ (j : ℕ). drop j s) same
      go false t =
          let past = leb-false top 8 t in
          drop_of_length-le s {i = k} (omega arith) ∙ sym (drop_of_length-le s {i = top} (omega arith))

  pub names_stored : (e x : List ℕ) → 8 ≤ length e → x ≡ take (length s - k) (drop k s) → x ++ drop (length (take (length s - k) (drop k s))) e ≡ sets e 0 (drop top s)
  names_stored e x long q =
      let eq = sets-eq (drop top s) e 0 (omega (arith, length-drop top s)) in
      rw (q, names_taken) (sym (rw zero-add at eq))

-- THE WHOLE: the names in force at the node, and the values of the row
module _ (t : Table) (rows : List ℕ) (j : ℕ) (w : Waits t rows j) where
  abbrev row : List ℕ
  row = row_at rows j

  abbrev ns : List ℕ
  ns = scope t (node_of row)

  whole : last_eight ns ≡ ns
  whole = scope_whole t w.passes (node_of row) w.inside

  names_few : length ns ≤ 8
  names_few = omega (arith, ap length whole, last_at_most ns)

  -- the names that the search for them gives
  names_found : (k : ℕ) (v : List ℕ) → k ≡ node_of row → v ≡ last_eight (scope t k) → v ≡ ns
  names_found k v z q = q ∙ ap (λ (i : ℕ). last_eight (scope t i)) z ∙ whole

  pub found_few : (k : ℕ) (v : List ℕ) → k ≡ node_of row → v ≡ last_eight (scope t k) → length v ≤ 8
  found_few k v z q = omega (arith, names_few, ap length (names_found k v z q))

  pub input_is : (e e' v : List ℕ) (k n : ℕ) → k ≡ node_of row → v ≡ last_eight (scope t k) → n ≡ length v → (x : List ℕ) → x ≡ sets e 0 v →
      e' ≡ values_put x 0 row n → InputEnvIs t rows j e e' n
  unfolding names_put
  input_is e e' v k n z q c x p r =
      let same : v ≡ ns = names_found k v z q in
      record {
        count = c ∙ ap length same;
        words = r ∙ ap₂ (λ (y : List ℕ) (i : ℕ). values_put y 0 row i) (p ∙ ap (sets e 0) same) (c ∙ ap length same);
      }

  -- WHAT THE WORDS ARE: the environment of the input, each value within its place
  module _ (e : List ℕ) (long : length e ≡ 144) where
    abbrev k : ℕ
    k = length ns

    front : take k (sets e 0 ns) ≡ ns
    front = mid_sets ns e 0 (omega (arith, names_few))

    row_long : length row ≡ 144
    row_long = part_length 144 32 rows j w.row (omega (arith, w.long, w.row))

    held : get_or row 6 0 ≡ k
    held =
        let few = held_count row w.input w.fits in
        let all : length (take (get_or row 6 0) (places_of row)) ≡ get_or row 6 0 = length-take-le (get_or row 6 0) (places_of row) (omega (arith, places_count row)) in
        sym (length-map (take (get_or row 6 0) (places_of row)) view_place ∙ all) ∙ w.each

    pub input_view : env_of (names_put e ns row) k ≡ env_at t (node_of row) (values_of row)
    unfolding names_put
    input_view =
        values_env (sets e 0 ns) row k (length-sets e 0 ns ∙ long) row_long names_few ∙
        ap₂ (λ (x : List ℕ) (i : ℕ). the-env x (map view_place (take i (places_of row)))) front (sym held)
      where
        the-env : List ℕ → List (List ℕ) → Env
        the-env x vs = record { names = x; vals = vs }

    pub input_fits : Fits (names_put e ns row) k
    unfolding names_put
    input_fits = record {
      long = values_length (sets e 0 ns) 0 row k ∙ length-sets e 0 ns ∙ long;
      few = names_few;
      places = values_fit_lem (sets e 0 ns) row k (length-sets e 0 ns ∙ long) row_long names_few (rw (← held) (held_values row w.input w.fits));
    }

  -- the same of the words that the function leaves
  pub env_is : (e e' : List ℕ) (n : ℕ) → length e ≡ 144 → InputEnvIs t rows j e e' n → (env_of e' n ≡ env_at t (node_of row) (values_of row)) × Fits e' n
  env_is e e' n long r = rw (r.words, r.count) (input_view e long, input_fits e long)
