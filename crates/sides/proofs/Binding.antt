-- A name bound in lent words: what the environment is then, and what stays.
use Prim.Native.Nat.{ℕ, ◌+◌, ◌-◌, ◌*◌, ◌<◌, ◌≤◌}
use mathlib.Core.Path.{◌≡◌, ◌∙◌, ap}
use mathlib.Core.Bool.{true}
use mathlib.Core.List.{List, [], ◌∷◌, ◌++◌, map}
use native.Mathlib.Numerals.{add-one}
use native.Mathlib.Omega.{arith}
use borrow.Rule.Slice.PartMut.{mid_of, put_mid}
use lib.ListN.{length, take, drop, get_or, set, length-set, length-drop}
use lib.Seq.{sets, length-sets, take-suc-set, take-set-le, drop-set-lt}
use Rattle.model.specs.Basics.{every}
use Rattle.model.specs.Values.{Env, extend}
use Rattle.sides.proofs.Lists.{view_push, every_push}
use Rattle.sides.specs.Layout.{parts, places_of, view_place, fits_place}
use Rattle.sides.specs.Stored.{placed}
use Rattle.sides.specs.Environments.{env_of, bound}
use Rattle.sides.proofs.Sets.{take_sets_le}
use Rattle.sides.proofs.Parts.{part_behind, part_length, sets_behind}
use Rattle.sides.proofs.Reading.{places_count}
use Rattle.sides.proofs.Viewing.{placed_view, placed_fits}
use Rattle.sides.proofs.Storing.{place_back}

-- one word, stored after its length
pub name_bound : (e : List ℕ) (n name w : ℕ) → set (set (set e n name) (8 + 17 * n) 1) (8 + 17 * n + 1) w ≡ bound e n name (w ∷ [])
unfolding placed bound
name_bound e n name w = ap (λ (k : ℕ). set (set (set e n name) (8 + 17 * n) 1) k w) (add-one (8 + 17 * n))

-- some words, stored in the place that is lent
pub words_bound : (e v : List ℕ) (n name : ℕ) (x : List ℕ) → length e ≡ 144 → n < 8 → length x ≤ 16 →
    v ≡ placed (mid_of (8 + 17 * n) (8 + 17 * n + 17 - (8 + 17 * n)) (set e n name)) 0 x →
    put_mid (8 + 17 * n) (8 + 17 * n + 17 - (8 + 17 * n)) (set e n name) v ≡ bound e n name x
unfolding bound
words_bound e v n name x long h short q =
    let s : List ℕ = set e n name in
    let a : ℕ = 8 + 17 * n in
    let k : ℕ = a + 17 - a in
    let sl : length s ≡ 144 = length-set e n name ∙ long in
    let mid : length (mid_of a k s) ≡ 17 = ap length (part_behind 17 8 8 s n h) ∙ part_length 17 8 (drop 8 s) n h (omega (arith, length-drop 8 s)) in
    ap (put_mid a k s) q ∙ place_back s a k x (omega arith) (omega arith)

module _ (e : List ℕ) (n name : ℕ) (x : List ℕ) where
  pub bound_length : length (bound e n name x) ≡ length e
  unfolding placed bound
  bound_length = length-sets (set e n name) (8 + 17 * n) (length x ∷ x) ∙ length-set e n name

  -- the names before it, and it
  module _ (long : length e ≡ 144) (h : n < 8) where
    pub names_kept : take n (bound e n name x) ≡ take n e
    unfolding placed bound
    names_kept = take_sets_le n (length x ∷ x) (set e n name) (8 + 17 * n) (omega arith) ∙ take-set-le n e n name (omega arith)

    names_bound : take (n + 1) (bound e n name x) ≡ take n e ++ (name ∷ [])
    unfolding placed bound
    names_bound =
        take_sets_le (n + 1) (length x ∷ x) (set e n name) (8 + 17 * n) (omega arith) ∙ ap (λ (k : ℕ). take k (set e n name)) (add-one n) ∙ take-suc-set e n name (omega arith)

    module _ (short : length x ≤ 16) where
      -- its place alone is put anew
      places_bound : places_of (bound e n name x) ≡ set (places_of e) n (placed (get_or (places_of e) n []) 0 x)
      unfolding placed bound
      places_bound =
          let s : List ℕ = set e n name in
          sets_behind 17 8 8 s n (length x ∷ x) h (omega arith) ∙
          ap (λ (y : List ℕ). set (parts 17 8 y) n (sets (get_or (parts 17 8 y) n []) 0 (length x ∷ x))) (drop-set-lt 8 e n name h)

      pub places_kept : take n (places_of (bound e n name x)) ≡ take n (places_of e)
      places_kept = ap (take n) places_bound ∙ take-set-le n (places_of e) n (placed (get_or (places_of e) n []) 0 x) (omega arith)

      place_long : length (get_or (places_of e) n []) ≡ 17
      place_long = part_length 17 8 (drop 8 e) n h (omega (arith, length-drop 8 e))

      -- the environment with the name
      pub env_bound : env_of (bound e n name x) (n + 1) ≡ extend (env_of e n) (name ∷ []) (x ∷ [])
      env_bound =
          let p : List ℕ = get_or (places_of e) n [] in
          let vals : map view_place (take (n + 1) (places_of (bound e n name x))) ≡ map view_place (take n (places_of e)) ++ (x ∷ []) =
          ap (λ (y : List (List ℕ)). map view_place (take (n + 1) y)) places_bound ∙ view_push view_place (places_of e) n (placed p 0 x) (rw (places_count e) h) ∙
          ap (λ (y : List ℕ). map view_place (take n (places_of e)) ++ (y ∷ [])) (placed_view p x (omega (arith, place_long))) in
          ap (λ (ns : List ℕ). the-env ns (map view_place (take (n + 1) (places_of (bound e n name x))))) names_bound ∙ ap (the-env (take n e ++ (name ∷ []))) vals
        where
          the-env : List ℕ → List (List ℕ) → Env
          the-env ns vs = record { names = ns; vals = vs }

      pub fits_bound : every fits_place (take n (places_of e)) ≡ true → every fits_place (take (n + 1) (places_of (bound e n name x))) ≡ true
      fits_bound f =
          let p : List ℕ = get_or (places_of e) n [] in
          ap (λ (y : List (List ℕ)). every fits_place (take (n + 1) y)) places_bound ∙
          every_push fits_place (places_of e) n (placed p 0 x) (rw (places_count e) h) f (placed_fits p x (omega (arith, place_long)) short)
