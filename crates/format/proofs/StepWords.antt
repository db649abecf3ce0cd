-- Steps as words: the list from a place on, step by step.
use mathlib.Core.Path.{◌≡◌, refl, sym, ap, ◌∙◌}
use mathlib.Core.Bool.{Bool, true, false}
use mathlib.Core.List.{List, [], ◌∷◌, ◌++◌}
use mathlib.Core.Option.{Option, none, some}
use Prim.Native.Nat.{ℕ, zero, suc, ◌+◌, ◌-◌, ◌<◌, ◌≤◌}
use native.Mathlib.Nat.{add-zero}
use native.Mathlib.Omega.{arith}
use borrow.Author.Tests.{leb-true, leb-false}
use lib.Dec.{leb}
use lib.ListN.{length, get_or, take, drop, length-drop, length-append, drop_of_length-le}
use lib.Seq.{get_or-drop, drop-drop, take-append_seam, drop-append_seam}
use Rattle.model.specs.Step.{Step}
use Rattle.format.specs.Words.{before, steps_after, steps_of, all_step_words, step_at}

-- the words of the step before are skipped
pub after_drop : (ws : List ℕ) (c : ℕ) → c ≤ length ws → steps_after ws c ≡ steps_of (drop c ws)
unfolding steps_after
after_drop [] zero h = refl
after_drop [] (suc c) h = absurd (omega arith)
after_drop (w ∷ ws) zero h = refl
after_drop (w ∷ ws) (suc c) h = after_drop ws c (omega arith)

pub after_short : (ws : List ℕ) (c : ℕ) → length ws < c → steps_after ws c ≡ none
unfolding steps_after
after_short [] zero h = absurd (omega arith)
after_short [] (suc c) h = refl
after_short (w ∷ ws) zero h = absurd (omega arith)
after_short (w ∷ ws) (suc c) h = after_short ws c (omega arith)

-- a list at its front
none_before : (x : Step) → before x none ≡ none
unfolding before
none_before x = refl

front_next : (ws : List ℕ) → 5 ≤ length ws → get_or ws 4 0 ≤ length ws - 5 → steps_of ws ≡ before (step_at ws 0) (steps_of (drop (5 + get_or ws 4 0) ws))
unfolding steps_after
front_next (k ∷ n ∷ i ∷ j ∷ c ∷ ws) a h = ap (before (step_at (k ∷ n ∷ i ∷ j ∷ c ∷ ws) 0)) (after_drop ws c (omega arith) ∙ ap steps_of (drop-drop c 5 (k ∷ n ∷ i ∷ j ∷ c ∷ ws)))
front_next [] a h = absurd (omega arith)
front_next (k ∷ []) a h = absurd (omega arith)
front_next (k ∷ n ∷ []) a h = absurd (omega arith)
front_next (k ∷ n ∷ i ∷ []) a h = absurd (omega arith)
front_next (k ∷ n ∷ i ∷ j ∷ []) a h = absurd (omega arith)

front_short : (ws : List ℕ) → 0 < length ws → length ws < 5 → steps_of ws ≡ none
unfolding steps_after
front_short [] a h = absurd (omega arith)
front_short (k ∷ []) a h = refl
front_short (k ∷ n ∷ []) a h = refl
front_short (k ∷ n ∷ i ∷ []) a h = refl
front_short (k ∷ n ∷ i ∷ j ∷ []) a h = refl
front_short (k ∷ n ∷ i ∷ j ∷ c ∷ ws) a h = absurd (omega arith)

front_cut : (ws : List ℕ) → 5 ≤ length ws → length ws - 5 < get_or ws 4 0 → steps_of ws ≡ none
unfolding steps_after
front_cut (k ∷ n ∷ i ∷ j ∷ c ∷ ws) a h = ap (before (step_at (k ∷ n ∷ i ∷ j ∷ c ∷ ws) 0)) (after_short ws c (omega arith)) ∙ none_before _
front_cut [] a h = absurd (omega arith)
front_cut (k ∷ []) a h = absurd (omega arith)
front_cut (k ∷ n ∷ []) a h = absurd (omega arith)
front_cut (k ∷ n ∷ i ∷ []) a h = absurd (omega arith)
front_cut (k ∷ n ∷ i ∷ j ∷ []) a h = absurd (omega arith)

-- the same from a place on
same_step : {k n i j k' n' i' j' : ℕ} {ws ws' : List ℕ} → k ≡ k' → n ≡ n' → i ≡ i' → j ≡ j' → ws ≡ ws' → ◌≡◌ {A = Step} (record { kind = k; side = n; i = i; j = j; words = ws }) (record { kind = k'; side = n'; i = i'; j = j'; words = ws' })
same_step a b c d e = rw (a, b, c, d, e)

module _ (l : List ℕ) (p : ℕ) where
  word_at : (k : ℕ) → get_or (drop p l) k 0 ≡ get_or l (p + k) 0
  word_at k = get_or-drop p l k 0

  step_dropped : step_at (drop p l) 0 ≡ step_at l p
  step_dropped = same_step
      (word_at 0 ∙ ap (λ (n : ℕ). get_or l n 0) (add-zero p)) (word_at 1) (word_at 2) (word_at 3)
      (ap (λ (n : ℕ). take n (drop 5 (drop p l))) (word_at 4) ∙ ap (take (get_or l (p + 4) 0)) (drop-drop 5 p l))

  pub steps_next : p + 5 ≤ length l → get_or l (p + 4) 0 ≤ length l - (p + 5) → steps_of (drop p l) ≡ before (step_at l p) (steps_of (drop (p + 5 + get_or l (p + 4) 0) l))
  steps_next a h =
      let more : p + (5 + get_or l (p + 4) 0) ≡ p + 5 + get_or l (p + 4) 0 = omega arith in
      front_next (drop p l) (omega (arith, length-drop p l)) (omega (arith, length-drop p l, word_at 4))
      ∙ ap (λ (x : Step). before x (steps_of (drop (5 + get_or (drop p l) 4 0) (drop p l)))) step_dropped
      ∙ ap (λ (n : ℕ). before (step_at l p) (steps_of (drop (5 + n) (drop p l)))) (word_at 4)
      ∙ ap (λ (x : List ℕ). before (step_at l p) (steps_of x)) (drop-drop (5 + get_or l (p + 4) 0) p l ∙ ap (λ (n : ℕ). drop n l) more)

  pub steps_short : p < length l → length l < p + 5 → steps_of (drop p l) ≡ none
  steps_short a h = front_short (drop p l) (omega (arith, length-drop p l)) (omega (arith, length-drop p l))

  pub steps_cut : p + 5 ≤ length l → length l - (p + 5) < get_or l (p + 4) 0 → steps_of (drop p l) ≡ none
  steps_cut a h = front_cut (drop p l) (omega (arith, length-drop p l)) (omega (arith, length-drop p l, word_at 4))

pub steps_end : (l : List ℕ) (p : ℕ) → length l ≤ p → steps_of (drop p l) ≡ some []
unfolding steps_after
steps_end l p h = ap steps_of (drop_of_length-le l h)

-- the words of a step that is there lie within the list
pub record Next (l : List ℕ) (p : ℕ) (x : Step) (xs : List Step) : Type 0 where
  pub head : p + 5 ≤ length l
  pub fits : get_or l (p + 4) 0 ≤ length l - (p + 5)
  pub step : step_at l p ≡ x
  pub rest : steps_of (drop (p + 5 + get_or l (p + 4) 0) l) ≡ some xs

before_some : (x y : Step) (r : Option (List Step)) (xs : List Step) → before y r ≡ some (x ∷ xs) → (y ≡ x) × (r ≡ some xs)
unfolding before
before_some x y none xs e = let z : ◌≡◌ {A = ℕ} 0 1 = cc in absurd (omega arith)
before_some x y (some ys) xs e = (cc, cc)

pub next_step : (l : List ℕ) (p : ℕ) (x : Step) (xs : List Step) → steps_of (drop p l) ≡ some (x ∷ xs) → Next l p x xs
next_step l p x xs e = by (leb (length l) p) refl (leb (p + 5) (length l)) refl (leb (get_or l (p + 4) 0) (length l - (p + 5))) refl
  where
    clash : {A : Type 0} {y : Step} {ys : List Step} → ◌≡◌ {A = Option (List Step)} none (some (y ∷ ys)) → A
    clash q = let z : ◌≡◌ {A = ℕ} 0 1 = cc in absurd (omega arith)

    empty : {A : Type 0} {y : Step} {ys : List Step} → ◌≡◌ {A = Option (List Step)} (some []) (some (y ∷ ys)) → A
    empty q = let z : ◌≡◌ {A = ℕ} 0 1 = cc in absurd (omega arith)

    by : (u : Bool) → leb (length l) p ≡ u → (v : Bool) → leb (p + 5) (length l) ≡ v → (w : Bool) → leb (get_or l (p + 4) 0) (length l - (p + 5)) ≡ w → Next l p x xs
    by true a v b w c = empty (sym (steps_end l p (leb-true _ _ a)) ∙ e)
    by false a false b w c = clash (sym (steps_short l p (leb-false _ _ a) (leb-false _ _ b)) ∙ e)
    by false a true b false c = clash (sym (steps_cut l p (leb-true _ _ b) (leb-false _ _ c)) ∙ e)
    by false a true b true c =
        let q = before_some x (step_at l p) (steps_of (drop (p + 5 + get_or l (p + 4) 0) l)) xs (sym (steps_next l p (leb-true _ _ b) (leb-true _ _ c)) ∙ e) in
        record { head = leb-true _ _ b; fits = leb-true _ _ c; step = q.0; rest = q.1 }

-- the words of some steps are those steps
pub words_steps : (xs : List Step) → steps_of (all_step_words xs) ≡ some xs
unfolding steps_after before
words_steps [] = refl
words_steps (x ∷ xs) =
    ap (before (record { kind = x.kind; side = x.side; i = x.i; j = x.j; words = take (length x.words) (x.words ++ all_step_words xs) }))
    (after_drop (x.words ++ all_step_words xs) (length x.words) (omega (arith, length-append x.words (all_step_words xs))) ∙ ap steps_of (drop-append_seam x.words (all_step_words xs)) ∙ words_steps xs)
    ∙ ap (λ (y : Step). some (y ∷ xs)) (same_step refl refl refl refl (take-append_seam x.words (all_step_words xs)))
