-- The words of the sides in the parts of one list.
use mathlib.Core.Path.{◌≡◌, refl, sym, ap, ◌∙◌}
use mathlib.Core.List.{List, [], ◌∷◌, ◌++◌, map}
use Prim.Native.Nat.{ℕ, zero, suc, ◌+◌, ◌*◌, ◌<◌, ◌≤◌}
use native.Mathlib.Nat.{mul-suc}
use native.Mathlib.Omega.{arith}
use lib.ListN.{length, get_or, take, drop, set}
use lib.Seq.{sets, length-sets}
use Rattle.sides.proofs.Sets.{set_sets, sets_append, drop_sets_lt, mid_sets}
use Rattle.reading.specs.Lists.{laid}

-- two runs of stores, one below the other, in either order
sets_apart : (ws vs l : List ℕ) (i j : ℕ) → i + length ws ≤ j → sets (sets l i ws) j vs ≡ sets (sets l j vs) i ws
sets_apart [] vs l i j h = refl
sets_apart (w ∷ ws) vs l i j h = sets_apart ws vs (set l i w) (suc i) j (omega arith) ∙ ap (λ (x : List ℕ). sets x (suc i) ws) (sym (set_sets vs l i j w (omega arith)))

-- where the part of the next side begins
next_part : (wide a s : ℕ) → a + wide * suc s ≡ a + wide + wide * s
next_part wide a s = omega (arith, mul-suc wide s)

pub laid_length : (wide a : ℕ) (wss : List (List ℕ)) (l : List ℕ) → length (laid wide a wss l) ≡ length l
unfolding laid
laid_length wide a [] l = refl
laid_length wide a (ws ∷ wss) l = length-sets (laid wide (a + wide) wss l) a ws ∙ laid_length wide (a + wide) wss l

-- no words at all
pub laid_none : (wide a : ℕ) (ns l : List ℕ) → laid wide a (map (λ n. []) ns) l ≡ l
unfolding laid
laid_none wide a [] l = refl
laid_none wide a (n ∷ ns) l = laid_none wide (a + wide) ns l

-- words stored behind those of a side
pub laid_more : (wide a : ℕ) (wss : List (List ℕ)) (s : ℕ) (vs l : List ℕ) → s < length wss → ((k : ℕ) → get_or (map length wss) k 0 ≤ wide) →
    sets (laid wide a wss l) (a + wide * s + get_or (map length wss) s 0) vs ≡ laid wide a (set wss s (get_or wss s [] ++ vs)) l
unfolding laid
laid_more wide a [] s vs l m h = absurd (omega arith)
laid_more wide a (ws ∷ wss) zero vs l m h =
    let x = laid wide (a + wide) wss l in
    let e : a + wide * 0 + length ws ≡ a + length ws = omega arith in
    ap (λ (k : ℕ). sets (sets x a ws) k vs) e ∙ sets_append ws vs x a
laid_more wide a (ws ∷ wss) (suc s) vs l m h =
    let x = laid wide (a + wide) wss l in
    let n = get_or (map length wss) s 0 in
    let e : a + wide * suc s + n ≡ a + wide + wide * s + n = ap (λ (k : ℕ). k + n) (next_part wide a s) in
    ap (λ (k : ℕ). sets (sets x a ws) k vs) e ∙ sets_apart ws vs x a (a + wide + wide * s + n) (omega (arith, h 0))
    ∙ ap (λ (y : List ℕ). sets y a ws) (laid_more wide (a + wide) wss s vs l (omega arith) (λ k. h (suc k)))

-- the words of a side, read from its part
pub laid_part : (wide a : ℕ) (wss : List (List ℕ)) (s : ℕ) (l : List ℕ) → s < length wss → ((k : ℕ) → get_or (map length wss) k 0 ≤ wide) → a + wide * length wss ≤ length l →
    take (get_or (map length wss) s 0) (drop (a + wide * s) (laid wide a wss l)) ≡ get_or wss s []
unfolding laid
laid_part wide a [] s l m h r = absurd (omega arith)
laid_part wide a (ws ∷ wss) zero l m h r =
    let x = laid wide (a + wide) wss l in
    let e : a + wide * 0 ≡ a = omega arith in
    ap (λ (k : ℕ). take (length ws) (drop k (sets x a ws))) e ∙ mid_sets ws x a (omega (arith, h 0, r, laid_length wide (a + wide) wss l, next_part wide a (length wss)))
laid_part wide a (ws ∷ wss) (suc s) l m h r =
    let x = laid wide (a + wide) wss l in
    let n = get_or (map length wss) s 0 in
    ap (take n) (drop_sets_lt (a + wide * suc s) ws x a (omega (arith, h 0, next_part wide a s)) ∙ ap (λ (k : ℕ). drop k x) (next_part wide a s))
    ∙ laid_part wide (a + wide) wss s l (omega arith) (λ k. h (suc k)) (omega (arith, r, next_part wide a (length wss)))
