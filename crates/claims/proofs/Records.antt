-- The records of a list of words: at its front, at a place, and what a list with given records is.
use mathlib.Core.Path.{◌≡◌, refl, sym, ap, ◌∙◌}
use mathlib.Core.Bool.{Bool, true, false, false≢true}
use mathlib.Core.List.{List, [], ◌∷◌, ◌++◌}
use Prim.Native.Nat.{ℕ, zero, suc, ◌+◌, ◌-◌, ◌<◌, ◌≤◌}
use native.Mathlib.Nat.{add-zero}
use native.Mathlib.Omega.{arith}
use borrow.Author.Tests.{leb-true, leb-false, le-leb, lt-leb, eqb-true, eq-eqb}
use lib.Dec.{eqb, leb}
use lib.ListN.{length, get_or, take, drop, length-drop, length-append, take-append-drop, get_or-append, drop_of_length-le}
use lib.Seq.{length-take-le, drop-nil, get_or-take, get_or-drop, drop-drop, take-take, take-add, drop_at, take-append_seam, drop-append_seam}
use Rattle.model.specs.Basics.{choose}
use Rattle.model.proofs.Basics.Tests.{fst, snd, both}
use Rattle.format.specs.Words.{step_at}
use Rattle.claims.specs.Claims.{Records, end, breaks_off, next, asks, records_past, same_words}

-- AT THE FRONT

-- the words of the record before are skipped
past : (b : ℕ) (ws : List ℕ) (c : ℕ) → records_past b ws c ≡ records_past b (drop c ws) 0
unfolding records_past
past b [] c = ap (λ (l : List ℕ). records_past b l 0) (sym (drop-nil c))
past b (w ∷ ws) zero = refl
past b (w ∷ ws) (suc c) = past b ws c

front_next : (b : ℕ) (ws : List ℕ) → asks b ws ≤ length ws → records_past b ws 0 ≡ next (take (asks b ws) ws) (records_past b (drop (asks b ws) ws) 0)
unfolding records_past choose
front_next b [] h = absurd (omega arith)
front_next b (w ∷ ws) h =
    let n : ℕ = asks b (w ∷ ws) in
    let less : suc (n - 1) ≡ n = omega arith in
    ap (λ (t : Bool). choose t (next (take n (w ∷ ws)) (records_past b ws (n - 1))) breaks_off) (le-leb n (length (w ∷ ws)) h)
    ∙ ap (next (take n (w ∷ ws))) (past b ws (n - 1) ∙ ap (λ (m : ℕ). records_past b (drop m (w ∷ ws)) 0) less)

front_breaks : (b : ℕ) (ws : List ℕ) → 0 < length ws → length ws < asks b ws → records_past b ws 0 ≡ breaks_off
unfolding records_past choose
front_breaks b [] a h = absurd (omega arith)
front_breaks b (w ∷ ws) a h =
    let n : ℕ = asks b (w ∷ ws) in
    ap (λ (t : Bool). choose t (next (take n (w ∷ ws)) (records_past b ws (n - 1))) breaks_off) (lt-leb n (length (w ∷ ws)) h)

pub front_end : (b : ℕ) (ws : List ℕ) → ws ≡ [] → records_past b ws 0 ≡ end
unfolding records_past
front_end b ws q = ap (λ (l : List ℕ). records_past b l 0) q

-- WHOLE RECORDS

-- so many words as it asks for
abbrev pub is_record : (before : ℕ) → List ℕ → Bool
is_record b r = eqb (asks b r) (length r)

-- the constructors differ
pub end_next : {r : List ℕ} {rs : Records} → end ≡ next r rs → ⊥
end_next e = let z : ◌≡◌ {A = ℕ} 0 1 = cc in omega arith

pub breaks_next : {r : List ℕ} {rs : Records} → breaks_off ≡ next r rs → ⊥
breaks_next e = let z : ◌≡◌ {A = ℕ} 0 1 = cc in omega arith

pub end_breaks : end ≡ breaks_off → ⊥
end_breaks e = let z : ◌≡◌ {A = ℕ} 0 1 = cc in omega arith

pub next_record : {r r' : List ℕ} {rs rs' : Records} → next r rs ≡ next r' rs' → r ≡ r'
next_record e = cc

next_others : {r r' : List ℕ} {rs rs' : Records} → next r rs ≡ next r' rs' → rs ≡ rs'
next_others e = cc

module _ (b : ℕ) where
  -- a record at the front of a list is its first
  pub record_front : (r rest : List ℕ) → is_record b r ≡ true → records_past b (r ++ rest) 0 ≡ next r (records_past b rest 0)
  record_front r rest h =
      let whole = eqb-true (asks b r) (length r) h in
      let count : asks b (r ++ rest) ≡ length r = ap (λ (c : ℕ). b + 1 + c) (get_or-append r rest 0 b (omega arith)) ∙ whole in
      front_next b (r ++ rest) (omega (arith, count, length-append r rest))
      ∙ ap (λ (n : ℕ). next (take n (r ++ rest)) (records_past b (drop n (r ++ rest)) 0)) count
      ∙ rw (take-append_seam r rest, drop-append_seam r rest) refl

  -- and the first record of a list stands at its front
  pub record First (ws r : List ℕ) (rs : Records) : Type 0 where
    pub whole : is_record b r ≡ true
    pub behind : List ℕ
    pub words : ws ≡ r ++ behind
    pub others : records_past b behind 0 ≡ rs

  -- the words that the front asks for, where there are so many
  taken_first : (ws : List ℕ) → asks b ws ≤ length ws → First ws (take (asks b ws) ws) (records_past b (drop (asks b ws) ws) 0)
  taken_first ws h =
      let n : ℕ = asks b ws in
      let count = get_or-take n ws b 0 (omega arith) in
      record { whole = eq-eqb (asks b (take n ws)) (length (take n ws)) (omega (arith, count, length-take-le n ws h)); behind = drop n ws; words = sym (take-append-drop n ws); others = refl }

  pub first_record : (ws r : List ℕ) (rs : Records) → records_past b ws 0 ≡ next r rs → First ws r rs
  first_record [] r rs e = absurd (end_next (sym (front_end b [] refl) ∙ e))
  first_record (w ∷ ws) r rs e = by (leb (asks b (w ∷ ws)) (length (w ∷ ws))) refl
    where
      by : (t : Bool) → leb (asks b (w ∷ ws)) (length (w ∷ ws)) ≡ t → First (w ∷ ws) r rs
      by true q =
          let fits = leb-true (asks b (w ∷ ws)) (length (w ∷ ws)) q in
          let same = sym (front_next b (w ∷ ws) fits) ∙ e in
          rw (next_record same, next_others same) at (taken_first (w ∷ ws) fits)
      by false q = absurd (breaks_next (sym (front_breaks b (w ∷ ws) (omega arith) (leb-false (asks b (w ∷ ws)) (length (w ∷ ws)) q)) ∙ e))

  pub no_record : (ws : List ℕ) → records_past b ws 0 ≡ end → ws ≡ []
  no_record [] e = refl
  no_record (w ∷ ws) e = by (leb (asks b (w ∷ ws)) (length (w ∷ ws))) refl
    where
      by : (t : Bool) → leb (asks b (w ∷ ws)) (length (w ∷ ws)) ≡ t → w ∷ ws ≡ []
      by true q = absurd (end_next (sym e ∙ front_next b (w ∷ ws) (leb-true (asks b (w ∷ ws)) (length (w ∷ ws)) q)))
      by false q = absurd (end_breaks (sym e ∙ front_breaks b (w ∷ ws) (omega arith) (leb-false (asks b (w ∷ ws)) (length (w ∷ ws)) q)))

-- AT A PLACE

module _ (b : ℕ) (l : List ℕ) (p : ℕ) where
  -- the count of the record there
  count_at : get_or (drop p l) b 0 ≡ get_or l (p + b) 0
  count_at = get_or-drop p l b 0

  pub records_next : p + b + 1 + get_or l (p + b) 0 ≤ length l
      → records_past b (drop p l) 0 ≡ next (take (b + 1 + get_or l (p + b) 0) (drop p l)) (records_past b (drop (p + b + 1 + get_or l (p + b) 0) l) 0)
  records_next h =
      let n : ℕ = b + 1 + get_or l (p + b) 0 in
      let same : asks b (drop p l) ≡ n = ap (λ (c : ℕ). b + 1 + c) count_at in
      let there : p + n ≡ p + b + 1 + get_or l (p + b) 0 = omega arith in
      front_next b (drop p l) (omega (arith, same, length-drop p l))
      ∙ ap (λ (m : ℕ). next (take m (drop p l)) (records_past b (drop m (drop p l)) 0)) same
      ∙ ap (λ (r : List ℕ). next (take n (drop p l)) (records_past b r 0)) (drop-drop n p l ∙ ap (λ (m : ℕ). drop m l) there)

  -- a record that asks for more words than there are from its place on
  pub records_broken : p < length l → length l < p + b + 1 + get_or l (p + b) 0 → records_past b (drop p l) 0 ≡ breaks_off
  records_broken a h = front_breaks b (drop p l) (omega (arith, length-drop p l)) (omega (arith, length-drop p l, count_at))

  pub records_end : length l ≤ p → records_past b (drop p l) 0 ≡ end
  records_end h = front_end b (drop p l) (drop_of_length-le l h)

-- the step of a record is the step at the record's place
pub step_taken : (l : List ℕ) (p : ℕ) → p + 5 ≤ length l → step_at (take (5 + get_or l (p + 4) 0) (drop p l)) 0 ≡ step_at l p
step_taken l p h = rw (word 0 (omega arith) ∙ ap (λ (n : ℕ). get_or l n 0) (add-zero p), word 1 (omega arith), word 2 (omega arith), word 3 (omega arith), value) refl
  where
    c : ℕ
    c = get_or l (p + 4) 0

    r : List ℕ
    r = take (5 + c) (drop p l)

    word : (k : ℕ) → k < 5 → get_or r k 0 ≡ get_or l (p + k) 0
    word k q = get_or-take (5 + c) (drop p l) k 0 (omega arith) ∙ get_or-drop p l k 0

    five : length (take 5 (drop p l)) ≡ 5
    five = length-take-le 5 (drop p l) (omega (arith, length-drop p l))

    behind : drop 5 r ≡ take c (drop (p + 5) l)
    behind = ap (drop 5) (take-add 5 c (drop p l)) ∙ drop_at (take 5 (drop p l)) (take c (drop 5 (drop p l))) 5 five ∙ ap (take c) (drop-drop 5 p l)

    value : take (get_or r 4 0) (drop 5 r) ≡ take c (drop (p + 5) l)
    value = ap (λ (n : ℕ). take n (drop 5 r)) (word 4 (omega arith)) ∙ ap (take c) behind ∙ take-take c c (drop (p + 5) l) (omega arith)

-- THE SAME WORDS

pub same_words_lem : (v c : List ℕ) → same_words v c ≡ true → v ≡ c
same_words_lem [] [] e = refl
same_words_lem [] (w ∷ ws) e = absurd (false≢true e)
same_words_lem (v ∷ vs) [] e = absurd (false≢true e)
same_words_lem (v ∷ vs) (w ∷ ws) e =
    let front = eqb-true v w (fst _ _ e) in
    let rest = same_words_lem vs ws (snd _ _ e) in
    rw (front, rest)

pub words_same : (v : List ℕ) → same_words v v ≡ true
words_same [] = refl
words_same (v ∷ vs) = both _ _ (eq-eqb v v refl) (words_same vs)
