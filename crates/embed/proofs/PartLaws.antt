-- The parts of a list of words: where they begin, and what they are.
use mathlib.Core.Path.{◌≡◌, refl, sym, ap, ◌∙◌}
use mathlib.Core.Bool.{Bool, true, false}
use mathlib.Core.List.{List, [], ◌∷◌, map}
use Prim.Native.Nat.{ℕ, zero, suc, ◌+◌, ◌-◌, ◌*◌, ◌<◌, ◌≤◌, min}
use native.Mathlib.Numerals.{add-one}
use native.Mathlib.Omega.{arith}
use borrow.Author.Tests.{leb-true, leb-false}
use lib.Dec.{leb}
use lib.ListN.{length, get_or, take, drop, length-map, length-drop, drop_of_length-le}
use lib.Seq.{take_all, take-nil, ext_get_or}
use Rattle.model.specs.Wrapper.{all_sides}
use Rattle.wrappers.specs.Compositions.{composition}
use Rattle.loading.proofs.Faults.{side_number, map_at}
use Rattle.embed.specs.Lent.{total, part_at, parts_from, nodes_in, pools_in, lent_composition}

-- WHERE A PART BEGINS

-- part 0 has none before it
pub total_none : (ls : List ℕ) → total (take 0 ls) ≡ 0
unfolding total
total_none [] = refl
total_none (n ∷ ls) = refl

-- the lengths before the part after this one
total_suc : (ls : List ℕ) (k : ℕ) → total (take (suc k) ls) ≡ total (take k ls) + get_or ls k 0
unfolding total
total_suc [] zero = refl
total_suc [] (suc k) = refl
total_suc (n ∷ ls) zero = omega arith
total_suc (n ∷ ls) (suc k) = let e = total_suc ls k in omega (arith, e)

pub total_more : (ls : List ℕ) (k : ℕ) → total (take (k + 1) ls) ≡ total (take k ls) + get_or ls k 0
total_more ls k = ap (λ (n : ℕ). total (take n ls)) (add-one k) ∙ total_suc ls k

-- A PART

module _ (ws ls : List ℕ) (k a b : ℕ) (begins : a ≡ min (total (take k ls)) (length ws)) (ends : b ≡ min (total (take (k + 1) ls)) (length ws)) where
  pub part_ordered : a ≤ b
  part_ordered = omega (arith, begins, ends, total_more ls k)

  -- the words between the beginnings of two parts are the first of them
  pub part_between : take (b - a) (drop a ws) ≡ part_at ws ls k
  part_between = by (leb (total (take k ls)) (length ws)) refl (leb (total (take (k + 1) ls)) (length ws)) refl
    where
      s : ℕ
      s = total (take k ls)

      n : ℕ
      n = get_or ls k 0

      by : (u : Bool) → leb s (length ws) ≡ u → (v : Bool) → leb (total (take (k + 1) ls)) (length ws) ≡ v → take (b - a) (drop a ws) ≡ take n (drop s ws)
      by false p v q =
          let past : length ws ≤ s = omega (arith, leb-false s (length ws) p) in
          let none : drop a ws ≡ [] = drop_of_length-le ws {i = a} (omega (arith, begins, past)) in
          ap (take (b - a)) none ∙ take-nil (b - a) ∙ sym (ap (take n) (drop_of_length-le ws past) ∙ take-nil n)
      by true p true q =
          let h = leb-true s (length ws) p in
          let same : a ≡ s = omega (arith, begins, h) in
          let long : b - a ≡ n = omega (arith, begins, ends, total_more ls k, h, leb-true (total (take (k + 1) ls)) (length ws) q) in
          ap (λ (m : ℕ). take m (drop a ws)) long ∙ ap (λ (m : ℕ). take n (drop m ws)) same
      by true p false q =
          let h = leb-true s (length ws) p in
          let same : a ≡ s = omega (arith, begins, h) in
          let less = leb-false (total (take (k + 1) ls)) (length ws) q in
          let rest : take (b - a) (drop a ws) ≡ drop a ws = take_all (b - a) (drop a ws) (omega (arith, length-drop a ws, begins, ends, less)) in
          let whole : take n (drop a ws) ≡ drop a ws = take_all n (drop a ws) (omega (arith, length-drop a ws, same, total_more ls k, less)) in
          rest ∙ sym whole ∙ ap (λ (m : ℕ). take n (drop m ws)) same

-- A PART OF EACH SIDE

pub parts_are : (first : ℕ) (ws ls : List ℕ) (rs : List (List ℕ)) → length rs ≡ length all_sides → ((j : ℕ) → j < length all_sides → get_or rs j [] ≡ part_at ws ls (2 * j + first)) → rs ≡ parts_from first ws ls
parts_are first ws ls rs many each =
    let f : ℕ → List ℕ = λ n. part_at ws ls (2 * (n - 1) + first) in
    let number : (j : ℕ) → j < length all_sides → part_at ws ls (2 * j + first) ≡ f (get_or all_sides j 0) =
    λ j h. let e : 2 * j + first ≡ 2 * (get_or all_sides j 0 - 1) + first = omega (arith, side_number j h) in ap (part_at ws ls) e in
    ext_get_or [] rs (map f all_sides) (many ∙ sym (length-map all_sides f))
    (λ j below. let h : j < length all_sides = omega (arith, many, below) in each j h ∙ number j h ∙ map_at f all_sides j 0 [] h)

-- the parts, to the model
pub lent_parts : (w : ℕ) (ns ps : List (List ℕ)) (ws ls : List ℕ) → ns ≡ nodes_in ws ls → ps ≡ pools_in ws ls → composition w ns ps ≡ lent_composition w ws ls
lent_parts w ns ps ws ls n p = rw (n, p)
