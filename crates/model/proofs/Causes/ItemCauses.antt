-- A value or a pattern that is not at its place: reading 16 words of the pool is refused exactly where it is malformed, over 16 words or
-- past the pool.
use mathlib.Core.Path.{◌≡◌, refl, sym, ◌∙◌, subst}
use mathlib.Core.Bool.{Bool, true, false}
use mathlib.Core.List.{List, [], ◌∷◌}
use mathlib.Core.Logic.{⊎_elim}
use Prim.Native.Nat.{ℕ, zero, suc, ◌+◌, ◌-◌, ◌≤◌, ◌<◌}
use native.Mathlib.Nat.{eq-or-lt_of_le}
use native.Mathlib.Omega.{arith}
use borrow.Author.Tests.{leb-true, leb-false}
use lib.Dec.{leb}
use lib.ListN.{take}
use Rattle.model.specs.Basics.{Res, refuse}
use Rattle.model.specs.Values.{is_tuple, arity, items}
use Rattle.model.specs.Causes.{Read, unread, past_leaf, past_tuple, Broken, item_malformed, item_over_16, item_past_pool}
use Rattle.model.proofs.Basics.Items.{clash}

module _ (leaf : ℕ → Bool) (from : List ℕ) where
  -- what 16 words give
  abbrev pub result : Res (List ℕ)
  result = items leaf 5 (take 16 from) 1

  -- one word more: a leaf, a tuple word, or neither
  on_leaf : (w m : ℕ) (ws : List ℕ) → leaf w ≡ true → items leaf 5 (w ∷ ws) (suc m) ≡ items leaf 5 ws m
  unfolding items
  on_leaf w m ws e = rw (e, items)

  on_tuple : (w m : ℕ) (ws : List ℕ) → leaf w ≡ false → is_tuple w ≡ true → items leaf 5 (w ∷ ws) (suc m) ≡ items leaf 5 ws (arity w + m)
  unfolding items
  on_tuple w m ws e f = rw (e, f, items)

  on_neither : (w m : ℕ) (ws : List ℕ) → leaf w ≡ false → is_tuple w ≡ false → items leaf 5 (w ∷ ws) (suc m) ≡ refuse 5
  unfolding items
  on_neither w m ws e f = rw (e, f, items)

  no_word : (c m : ℕ) → items leaf 5 (take c []) (suc m) ≡ refuse 5
  unfolding items
  no_word zero m = refl
  no_word (suc c) m = refl

  -- within 16 words, what is left gives the result
  reads : {k m : ℕ} {ws : List ℕ} → Read leaf from k ws m → (c : ℕ) → c + k ≡ 16 → result ≡ items leaf 5 (take c ws) m
  reads unread c e = let z : 16 ≡ c = omega (arith, e) in subst (λ (n : ℕ). result ≡ items leaf 5 (take n from) 1) z refl
  reads (past_leaf {w = w} {m = m} {ws = ws} l r) c e = reads r (suc c) (omega (arith, e)) ∙ on_leaf w m (take c ws) l
  reads (past_tuple {w = w} {m = m} {ws = ws} l t r) c e = reads r (suc c) (omega (arith, e)) ∙ on_tuple w m (take c ws) l t

  -- behind 16 words there are no more
  reads_16 : {m : ℕ} {ws : List ℕ} → Read leaf from 16 ws (suc m) → result ≡ refuse 5
  unfolding items
  reads_16 r = reads r 0 refl

  beyond : {k m : ℕ} {ws : List ℕ} → Read leaf from k ws m → 16 < k → result ≡ refuse 5
  beyond unread h = absurd (omega arith)
  beyond (past_leaf {k = k} {w = w} {m = m} {ws = ws} l r) h = ⊎_elim (λ e. reads_16 (subst (λ (n : ℕ). Read leaf from n (w ∷ ws) (suc m)) (sym e) r)) (λ q. beyond r q) (eq-or-lt_of_le (below k h))
    where
      below : (k : ℕ) → 16 < suc k → 16 ≤ k
      below k h = omega arith
  beyond (past_tuple {k = k} {w = w} {m = m} {ws = ws} l t r) h = ⊎_elim (λ e. reads_16 (subst (λ (n : ℕ). Read leaf from n (w ∷ ws) (suc m)) (sym e) r)) (λ q. beyond r q) (eq-or-lt_of_le (below k h))
    where
      below : (k : ℕ) → 16 < suc k → 16 ≤ k
      below k h = omega arith

  -- by how many words are read
  by_count : {k m : ℕ} {ws : List ℕ} → Read leaf from k ws (suc m) → ((c : ℕ) → c + k ≡ 16 → items leaf 5 (take c ws) (suc m) ≡ refuse 5) → result ≡ refuse 5
  by_count {k} r f = go (leb k 16) refl
    where
      go : (b : Bool) → leb k 16 ≡ b → result ≡ refuse 5
      go true q =
          let l = leb-true k 16 q in
          let z : 16 - k + k ≡ 16 = omega arith in
          reads r (16 - k) z ∙ f (16 - k) z
      go false q = beyond r (leb-false k 16 q)

  pub broken_refused : Broken leaf from → result ≡ refuse 5
  broken_refused (item_malformed {w = w} {m = m} {ws = ws} l t r) = by_count r (λ c e. short c)
    where
      short : (c : ℕ) → items leaf 5 (take c (w ∷ ws)) (suc m) ≡ refuse 5
      short zero = no_word zero m
      short (suc c) = on_neither w m (take c ws) l t
  broken_refused (item_over_16 r) = reads_16 r
  broken_refused (item_past_pool {m = m} r) = by_count r (λ c e. no_word c m)

  -- and back, word by word
  none_to_come : (ws : List ℕ) (e : ℕ) → items leaf 5 ws 0 ≡ refuse e → ⊥
  unfolding items
  none_to_come [] e q = clash (sym q)
  none_to_come (w ∷ ws) e q = clash (sym q)

  refused_from : (e c : ℕ) (ws : List ℕ) (k m : ℕ) → c + k ≡ 16 → Read leaf from k ws m → items leaf 5 (take c ws) m ≡ refuse e → Broken leaf from
  refused_from e zero ws k zero s r q = absurd (none_to_come (take zero ws) e q)
  refused_from e zero ws k (suc m) s r q = let all : k ≡ 16 = omega (arith, s) in item_over_16 (subst (λ (n : ℕ). Read leaf from n ws (suc m)) all r)
  refused_from e (suc c) [] k zero s r q = absurd (none_to_come (take (suc c) []) e q)
  refused_from e (suc c) [] k (suc m) s r q = item_past_pool r
  refused_from e (suc c) (w ∷ ws) k zero s r q = absurd (none_to_come (take (suc c) (w ∷ ws)) e q)
  refused_from e (suc c) (w ∷ ws) k (suc m) s r q = by_word (leaf w) refl (is_tuple w) refl (λ n. refused_from e c ws (suc k) n (next c k s))
    where
      next : (c k : ℕ) → suc c + k ≡ 16 → c + suc k ≡ 16
      next c k s = omega arith

      by_word : (a : Bool) → leaf w ≡ a → (b : Bool) → is_tuple w ≡ b → ((n : ℕ) → Read leaf from (suc k) ws n → items leaf 5 (take c ws) n ≡ refuse e → Broken leaf from) → Broken leaf from
      by_word true l b t go = go m (past_leaf l r) (sym (on_leaf w m (take c ws) l) ∙ q)
      by_word false l true t go = go (arity w + m) (past_tuple l t r) (sym (on_tuple w m (take c ws) l t) ∙ q)
      by_word false l false t go = item_malformed l t r

  pub refused_broken : (e : ℕ) → result ≡ refuse e → Broken leaf from
  refused_broken e q = refused_from e 16 from 0 1 refl unread q
