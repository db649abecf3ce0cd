-- The words at a place of the pool, as `size_at` finds them; a pattern's names, and whether one stands twice.
use mathlib.Core.Path.{◌≡◌, refl, sym, ap, ◌∙◌}
use mathlib.Core.Bool.{Bool, true, false}
use mathlib.Core.List.{List, []}
use Prim.Native.Nat.{ℕ, zero, suc, ◌+◌, ◌-◌, ◌<◌, ◌≤◌}
use native.Mathlib.Omega.{arith}
use borrow.Author.Tests.{leb-true, leb-false}
use lib.Dec.{leb}
use lib.ListN.{length, get_or, take, drop, replicate, length-take, length-drop, drop_of_length-le}
use lib.Seq.{take-take, length-take-le}
use Rattle.model.specs.Basics.{Res, refuse, done, is_done, or_else}
use Rattle.model.specs.Values.{binders, distinct, items, at, is_pattern_leaf, is_public}
use Rattle.model.specs.Checks.{pattern_ok}
use Rattle.values.specs.Span.{leaf_of, size_of}
use Rattle.std.specs.Option.{is_some, MatchOption}
use Rattle.std.specs.declared.option.Option.{Option}
use Rattle.std.specs.declared.option.Option.TheVariants.{None, Some}
use Rattle.values.specs.declared.Leaf.TheVariants.{Public, Pattern}

-- WORDS AT A PLACE
whole : (k : ℕ) (l : List ℕ) → k ≤ 16 → take k l ≡ take k (take 16 l)
whole k l h = sym (take-take k 16 l h)

place_inside : (leaf : ℕ → Bool) (pool : List ℕ) (p : ℕ) (r : List ℕ) → items leaf 5 (take 16 (drop p pool)) 1 ≡ done r → p < length pool
unfolding items
place_inside leaf pool p r e = go (leb (length pool) p) refl
  where
    go : (b : Bool) → leb (length pool) p ≡ b → p < length pool
    go true q =
        let n : drop p pool ≡ [] = drop_of_length-le pool {i = p} (leb-true (length pool) p q) in
        let z : ◌≡◌ {A = Res (List ℕ)} (refuse 5) (done r) = sym (ap (λ (l : List ℕ). items leaf 5 (take 16 l) 1) n) ∙ e in
        let y : ◌≡◌ {A = ℕ} 0 1 = cc in
        absurd (omega arith)
    go false q = leb-false (length pool) p q

-- the words of a value or pattern stand at its place, inside the pool, and are at most 16
at_words : (leaf : ℕ → Bool) (pool : List ℕ) (p : ℕ) (ws : List ℕ) → at leaf pool p ≡ done ws → (ws ≡ take (length ws) (drop p pool)) × (p + length ws ≤ length pool) × (length ws ≤ 16)
unfolding at
at_words leaf pool p ws e = go (items leaf 5 (take 16 (drop p pool)) 1) refl e
  where
    go : (q : Res (List ℕ)) → items leaf 5 (take 16 (drop p pool)) 1 ≡ q → elim q [ refuse n ↦ refuse n | done r ↦ done (take (length (take 16 (drop p pool)) - length r) (take 16 (drop p pool))) ] ≡ done ws →
        (ws ≡ take (length ws) (drop p pool)) × (p + length ws ≤ length pool) × (length ws ≤ 16)
    go (refuse n) a z = let y : ◌≡◌ {A = ℕ} 0 1 = cc in absurd (omega arith)
    go (done r) a z =
        let w = take 16 (drop p pool) in
        let k = length w - length r in
        let f : take k w ≡ ws = cc in
        let n : length ws ≡ k = ap length (sym f) ∙ length-take-le k w (omega arith) in
        let lw = length-take 16 (drop p pool) in
        let ld = length-drop p pool in
        let i = place_inside leaf pool p r a in
        (sym (ap (λ (j : ℕ). take j (drop p pool)) n ∙ whole k (drop p pool) (omega arith) ∙ f), omega arith, omega arith)

pub words_bad : (leaf : ℕ → Bool) (pool : List ℕ) (p : ℕ) → None ≡ size_of (at leaf pool p) → or_else (at leaf pool p) [] ≡ []
words_bad leaf pool p e = go (at leaf pool p) e
  where
    go : (q : Res (List ℕ)) → None ≡ size_of q → or_else q [] ≡ []
    go (refuse n) z = refl
    go (done ws) z = let y : ◌≡◌ {A = ℕ} 0 1 = cc in absurd (omega arith)

pub words_found : (leaf : ℕ → Bool) (pool : List ℕ) (p k : ℕ) → Some k ≡ size_of (at leaf pool p) → (or_else (at leaf pool p) [] ≡ take k (drop p pool)) × (p + k ≤ length pool) × (k ≤ 16)
words_found leaf pool p k e = go (at leaf pool p) refl e
  where
    go : (q : Res (List ℕ)) → at leaf pool p ≡ q → Some k ≡ size_of q → (or_else q [] ≡ take k (drop p pool)) × (p + k ≤ length pool) × (k ≤ 16)
    go (refuse n) a z = let y : ◌≡◌ {A = ℕ} 0 1 = cc in absurd (omega arith)
    go (done ws) a z =
        let n : length ws ≡ k = cc in
        let w = at_words leaf pool p ws a in
        (w.0 ∙ ap (λ (j : ℕ). take j (drop p pool)) n, rw (← n) w.1, rw (← n) w.2)

pub words_inside : (leaf : ℕ → Bool) (pool : List ℕ) (p k : ℕ) → Some k ≡ size_of (at leaf pool p) → p + k ≤ length pool
words_inside leaf pool p k e = (words_found leaf pool p k e).1

pub words_few : (leaf : ℕ → Bool) (pool : List ℕ) (p : ℕ) → length (or_else (at leaf pool p) []) ≤ 16
words_few leaf pool p = go (at leaf pool p) refl
  where
    go : (q : Res (List ℕ)) → at leaf pool p ≡ q → length (or_else q []) ≤ 16
    go (refuse n) a = omega arith
    go (done ws) a = (at_words leaf pool p ws a).2

-- an array of one value
pub same_everywhere : {A : Type 0} (n m : ℕ) (v : A) → get_or (replicate n v) m v ≡ v
same_everywhere zero m v = refl
same_everywhere (suc n) zero v = refl
same_everywhere (suc n) (suc m) v = same_everywhere n m v

-- what `size_at` says of `at`
pub done_some : (pool : List ℕ) (p : ℕ) → is_some (size_of (at (leaf_of Public) pool p)) ≡ is_done (at is_public pool p)
unfolding leaf_of
done_some pool p = go (at is_public pool p)
  where
    go : (q : Res (List ℕ)) → is_some (size_of q) ≡ is_done q
    go (refuse n) = refl
    go (done ws) = refl

pub pat_bad : (pool : List ℕ) (p : ℕ) → None ≡ size_of (at (leaf_of Pattern) pool p) → false ≡ pattern_ok pool p
unfolding leaf_of pattern_ok
pat_bad pool p e = go (at is_pattern_leaf pool p) e
  where
    go : (q : Res (List ℕ)) → None ≡ size_of q → false ≡ elim q [ refuse n ↦ false | done ws ↦ distinct (binders ws) ]
    go (refuse n) z = refl
    go (done ws) z = let y : ◌≡◌ {A = ℕ} 0 1 = cc in absurd (omega arith)

pub pat_at : (pool : List ℕ) (p k : ℕ) → Some k ≡ size_of (at (leaf_of Pattern) pool p) → distinct (binders (take k (drop p pool))) ≡ pattern_ok pool p
unfolding leaf_of pattern_ok
pat_at pool p k e = go (at is_pattern_leaf pool p) refl e
  where
    go : (q : Res (List ℕ)) → at is_pattern_leaf pool p ≡ q → Some k ≡ size_of q → distinct (binders (take k (drop p pool))) ≡ elim q [ refuse n ↦ false | done ws ↦ distinct (binders ws) ]
    go (refuse n) a z = let y : ◌≡◌ {A = ℕ} 0 1 = cc in absurd (omega arith)
    go (done ws) a z =
        let n : length ws ≡ k = cc in
        ap (λ (x : List ℕ). distinct (binders x)) (sym ((at_words is_pattern_leaf pool p ws a).0 ∙ ap (λ (j : ℕ). take j (drop p pool)) n))

-- the same of what was found, where what a test says of the words is P
pub pattern_by : (pool : List ℕ) (p : ℕ) (P : ℕ → Type 0) (o : Option ℕ) (r : Bool) → o ≡ size_of (at (leaf_of Pattern) pool p) → MatchOption o (r ≡ false) P →
    ((k : ℕ) → P k → r ≡ distinct (binders (take (p + k - p) (drop p pool)))) → r ≡ pattern_ok pool p
pattern_by pool p P None r e h f = h ∙ pat_bad pool p e
pattern_by pool p P (Some k) r e h f =
    let n : p + k - p ≡ k = omega arith in
    f k h ∙ ap (λ (j : ℕ). distinct (binders (take j (drop p pool)))) n ∙ pat_at pool p k e
