-- S lines.
use mathlib.Core.Path.{◌≡◌, refl, sym, ap, ◌∙◌}
use mathlib.Core.Bool.{Bool, true, false}
use mathlib.Core.List.{List, [], ◌∷◌, ◌++◌, append_assoc, append-nil}
use mathlib.Core.Option.{none}
use Prim.Native.Nat.{ℕ, ◌+◌, ◌-◌, ◌<◌, ◌≤◌}
use native.Mathlib.Nat.{zero-add}
use native.Mathlib.Omega.{arith}
use borrow.Author.Tests.{leb-true, ltb-true, lt-ltb, le-ltb}
use lib.Dec.{ltb}
use lib.ListN.{length, get_or, take, drop, set, length-append, length-drop}
use lib.Seq.{sets, take-take, length-take-le}
use Rattle.model.specs.Basics.{◌&◌}
use Rattle.model.specs.Step.{Step}
use Rattle.model.proofs.Basics.Tests.{fst, snd, both}
use Rattle.sides.proofs.Sets.{sets_append}
use Rattle.format.specs.Words.{step_words, all_step_words}
use Rattle.format.specs.Lines.{Input, between, step_of, on_s}
use Rattle.reading.specs.declared.Places.{Places}
use Rattle.reading.specs.Lists.{Lists, lists, places_of, Holds, AfterIs}
use Rattle.delimiters.proofs.SliceLaws.{take_of_drop}
use Rattle.std.specs.declared.option.Option.TheVariants.{Some, None}
use Rattle.reading.proofs.TestLaws.{first_fails, second_fails, inside, below, above, passes, fails}
use Rattle.reading.proofs.AnswerLaws.{is_fault, is_next, places, same_places, same_lists, size_of}

-- the words of a step more
all_words : (xs : List Step) (x : Step) → all_step_words (xs ++ (x ∷ [])) ≡ all_step_words xs ++ step_words x
all_words [] x = append-nil (step_words x)
all_words (y ∷ ys) x = ap (λ (r : List ℕ). step_words y ++ r) (all_words ys x) ∙ sym (append_assoc (step_words y) (all_step_words ys) (step_words x))

first_four : (ws : List ℕ) → 4 ≤ length ws → take 4 ws ≡ get_or ws 0 0 ∷ get_or ws 1 0 ∷ get_or ws 2 0 ∷ get_or ws 3 0 ∷ []
first_four [] h = absurd (omega arith)
first_four (a ∷ []) h = absurd (omega arith)
first_four (a ∷ b ∷ []) h = absurd (omega arith)
first_four (a ∷ b ∷ c ∷ []) h = absurd (omega arith)
first_four (a ∷ b ∷ c ∷ d ∷ ws) h = refl

-- an S line's numbers, with the count of its value words
module _ (len : ℕ) (ws : List ℕ) (full : length ws ≡ 21) (enough : 4 ≤ len) (few : len ≤ 21) where
  count_of : length (drop 4 (take len ws)) ≡ len - 4
  count_of = omega (arith, length-drop 4 (take len ws), size_of len ws full)

  step_words_lem : take 4 ws ++ ((len - 4) ∷ take (len - 4) (drop 4 ws)) ≡ step_words (step_of (take len ws))
  step_words_lem =
      let n : 4 + (len - 4) ≡ len = omega arith in
      let a : take 4 ws ≡ take 4 (take len ws) = sym (take-take 4 len ws enough) in
      let b : take (len - 4) (drop 4 ws) ≡ drop 4 (take len ws) = take_of_drop 4 (len - 4) ws ∙ ap (λ (k : ℕ). drop 4 (take k ws)) n in
      rw (a, b, ← count_of, first_four (take len ws) (omega (arith, size_of len ws full)))

  step_size : length (step_words (step_of (take len ws))) ≡ len + 1
  step_size = omega (arith, count_of)

-- the four numbers, the count and the value words, stored one after the other
run_of : (a c : ℕ) (x y l : List ℕ) → length x ≡ 4 → sets (set (sets l a x) (a + 4) c) (a + 5) y ≡ sets l a (x ++ (c ∷ y))
run_of a c x y l e =
    let n : a + length x ≡ a + 4 = omega arith in
    let m : a + length (x ++ (c ∷ [])) ≡ a + 5 = omega (arith, length-append x (c ∷ [])) in
    ap (λ (k : ℕ). sets (set (sets l a x) k c) (a + 5) y) (sym n) ∙ ap (λ (z : List ℕ). sets z (a + 5) y) (sets_append x (c ∷ []) l a)
    ∙ ap (λ (k : ℕ). sets (sets l a (x ++ (c ∷ []))) k y) (sym m) ∙ sets_append (x ++ (c ∷ [])) y l a ∙ ap (sets l a) (append_assoc x (c ∷ []) y)

-- an S line's test, from the code's
abbrev fits_test : (len rank steps : ℕ) → Bool
fits_test len rank steps = between 1 4 rank & (between 4 21 len & ltb steps 1024)

module _ (len rank steps : ℕ) where
  pub fits_no_rank : rank ≡ 0 → fits_test len rank steps ≡ false
  fits_no_rank e = first_fails _ _ (below 1 4 rank (omega arith))

  pub fits_rank : 4 < rank → fits_test len rank steps ≡ false
  fits_rank e = first_fails _ _ (above 1 4 rank e)

  pub fits_short : len < 4 → fits_test len rank steps ≡ false
  fits_short e = second_fails _ _ (first_fails _ _ (below 4 21 len e))

  pub fits_full : 1024 ≤ steps → fits_test len rank steps ≡ false
  fits_full e = second_fails _ _ (second_fails _ _ (le-ltb steps 1024 e))

  pub fits_all : (rank ≡ 0 → ⊥) → rank ≤ 4 → 4 ≤ len → len ≤ 21 → steps < 1024 → fits_test len rank steps ≡ true
  fits_all a b c d e = both _ _ (inside 1 4 rank (omega arith) b) (both _ _ (inside 4 21 len c d) (lt-ltb steps 1024 e))

-- what it tells where it passes
pub fits_facts : (len rank steps : ℕ) → fits_test len rank steps ≡ true → (4 ≤ len) × (steps < 1024)
fits_facts len rank steps e = let a = snd _ _ e in (leb-true 4 len (fst _ _ (fst _ _ a)), ltb-true steps 1024 (snd _ _ a))

pub s_none : (i : Input) (ns : List ℕ) → fits_test (length ns) i.rank (length i.steps) ≡ false → on_s i ns ≡ none
unfolding on_s
s_none i ns e = fails _ _ e

-- places with a step more
abbrev step_more : Places → (len : ℕ) → Places
step_more p len = places 4 p.wrapper p.nodes p.pools (p.steps + 1) (p.words + len + 1)

-- AN S LINE
module _ (i : Input) (p : Places) (old l : Lists) (at : p ≡ places_of i) (h : Holds i old l) (len : ℕ) (ws : List ℕ) (full : length ws ≡ 21) (few : len ≤ 21) where
  same_test : fits_test (length (take len ws)) i.rank (length i.steps) ≡ fits_test len p.rank p.steps
  same_test =
      let n : length (take len ws) ≡ len = omega (arith, size_of len ws full) in
      ap (λ (k : ℕ). fits_test k i.rank (length i.steps)) n ∙ ap (λ (x : Places). fits_test len x.rank x.steps) (sym at)

  pub s_fault : fits_test len p.rank p.steps ≡ false → AfterIs i (on_s i (take len ws)) None old l
  s_fault e = is_fault i _ p old l at h (s_none i (take len ws) (same_test ∙ e))

  -- the first four numbers, the count of the value words, and these, stored one behind the other
  pub s_taken : (three : List ℕ) → fits_test len p.rank p.steps ≡ true →
      three ≡ sets (set (sets l.steps p.words (take 4 ws)) (p.words + 4) (len - 4)) (p.words + 5) (take (len - 4) (drop 4 ws)) →
      AfterIs i (on_s i (take len ws)) (Some (step_more p len)) old (lists l.nodes l.pools three)
  unfolding on_s
  s_taken three e put =
      let enough = (fits_facts len p.rank p.steps e).0 in
      let room = (fits_facts len p.rank p.steps e).1 in
      let x = step_of (take len ws) in
      let j : Input = record { rank = 4; loads = i.loads; steps = i.steps ++ (x ∷ []) } in
      let before = all_step_words i.steps in
      let all = all_words i.steps x in
      let four : length (take 4 ws) ≡ 4 = length-take-le 4 ws (omega arith) in
      let steps : length (i.steps ++ (x ∷ [])) ≡ length i.steps + 1 = length-append i.steps (x ∷ []) in
      let words : length (all_step_words (i.steps ++ (x ∷ []))) ≡ length before + len + 1 = omega (arith, ap length all, length-append before (step_words x), step_size len ws full enough few) in
      let places : step_more p len ≡ places_of j = ap (λ (y : Places). step_more y len) at ∙ same_places _ _ _ _ _ _ _ _ _ _ refl refl (sym steps) (sym words) in
      let there : three ≡ sets old.steps 0 (all_step_words (i.steps ++ (x ∷ []))) =
      put ∙ run_of p.words (len - 4) (take 4 ws) (take (len - 4) (drop 4 ws)) l.steps four ∙ ap (sets l.steps p.words) (step_words_lem len ws full enough few)
      ∙ ap (λ (y : Lists). sets y.steps p.words (step_words x)) h.lists ∙ ap (λ (y : Places). sets (sets old.steps 0 before) y.words (step_words x)) at
      ∙ ap (λ (k : ℕ). sets (sets old.steps 0 before) k (step_words x)) (sym (zero-add (length before))) ∙ sets_append before (step_words x) old.steps 0 ∙ ap (sets old.steps 0) (sym all) in
      let n : p.steps ≡ length i.steps = ap (λ (y : Places). y.steps) at in
      is_next i _ _ old _ j (passes _ _ (same_test ∙ e)) places
      (record {
        tables = h.tables;
        inside = record { nodes = h.inside.nodes; fives = h.inside.fives; pools = h.inside.pools; steps = omega (arith, steps, n, room); step_words = omega (arith, steps, words, h.inside.step_words, few) };
        lists = same_lists _ _ _ _ _ _ (ap (λ (y : Lists). y.nodes) h.lists) (ap (λ (y : Lists). y.pools) h.lists) there;
      })
