-- Laws of where items end: one for each way that the code goes.
use mathlib.Core.Path.{◌≡◌, refl, sym, ap, ◌∙◌, subst}
use mathlib.Core.Bool.{Bool, true, false}
use mathlib.Core.List.{List, [], ◌∷◌}
use mathlib.Core.Logic.{◌⊎◌, inl, inr, ⊎_elim}
use Prim.Native.Nat.{ℕ, zero, suc, ◌+◌, ◌-◌, ◌<◌, ◌≤◌, min, max}
use native.Mathlib.Omega.{arith}
use borrow.Author.Tests.{le-leb, lt-leb, leb-true, leb-false, eq-eqb, ne_eqb, eqb-true, eqb-false, ltb-true, ltb-false}
use lib.Dec.{leb, ltb, eqb}
use lib.ListN.{length, get_or, take, drop, length-drop, drop_of_length-le, length-take}
use lib.Seq.{drop-drop, drop-length, take_all, take-take, length-take-le}
use Rattle.model.specs.Basics.{◌&◌, Res, refuse, done, or_else}
use Rattle.model.specs.Values.{items, is_name, is_tuple, arity, rest_of, first_of, at, is_value, shaped}
use Rattle.model.proofs.Basics.Items.{items_zero, items_leaf, items_tuple, items_bad}
use Rattle.values.proofs.Lists.{at_i}
use Rattle.values.proofs.Words.{left_false}
use Rattle.values.specs.Span.{leaf_of, found, span_of, end_of, size_of}
use Rattle.std.specs.Option.{unwrap_or, option_eq}
use Rattle.std.specs.declared.option.Option.{Option}
use Rattle.std.specs.declared.option.Option.TheVariants.{None, Some}
use Rattle.values.specs.declared.Leaf.TheVariants.{Name}

-- what stands behind the end e of the first value from place j on, and the words of that value
pub record EndIs (v : List ℕ) (j e : ℕ) : Type 0 where
  pub left : drop e v ≡ rest_of (drop j v)
  pub first : take (e - j) (drop j v) ≡ first_of (drop j v)
  pub above : j ≤ e

module _ (leaf : ℕ → Bool) (e : ℕ) where
  -- what is left is a tail, shorter where an item was read
  abbrev pub Tail : List ℕ → ℕ → List ℕ → Type 0
  Tail ws n r = (k : ℕ) × (drop k ws ≡ r) × (k ≤ length ws) × (0 < n → 0 < k)

  pub items_tail : (ws : List ℕ) (n : ℕ) (r : List ℕ) → items leaf e ws n ≡ done r → Tail ws n r
  unfolding items
  items_tail [] zero r p = (0, (cc), omega arith, λ h. h)
  items_tail [] (suc n) r p = let z : ◌≡◌ {A = ℕ} 0 1 = cc in absurd (omega arith)
  items_tail (w ∷ ws) zero r p = (0, (cc), omega arith, λ h. h)
  items_tail (w ∷ ws) (suc n) r p = go (leaf w) (is_tuple w) (items_tail ws n r) (items_tail ws (arity w + n) r) p
    where
      go : (t u : Bool) → (items leaf e ws n ≡ done r → Tail ws n r) → (items leaf e ws (arity w + n) ≡ done r → Tail ws (arity w + n) r) →
          ◌≡◌ {A = Res (List ℕ)} (elim t [ true ↦ items leaf e ws n | false ↦ elim u [ true ↦ items leaf e ws (arity w + n) | false ↦ refuse e ] ]) (done r) → Tail (w ∷ ws) (suc n) r
      go true u ih ih' q = let a = ih q in (suc a.0, a.1, omega (arith, a.2), λ h. omega arith)
      go false true ih ih' q = let a = ih' q in (suc a.0, a.1, omega (arith, a.2), λ h. omega arith)
      go false false ih ih' q = let z : ◌≡◌ {A = ℕ} 0 1 = cc in absurd (omega arith)

  -- each item takes a word at least
  pub items_short : (ws : List ℕ) (n : ℕ) → length ws < n → items leaf e ws n ≡ refuse e
  unfolding items
  items_short [] zero h = absurd (omega arith)
  items_short [] (suc n) h = refl
  items_short (w ∷ ws) zero h = absurd (omega arith)
  items_short (w ∷ ws) (suc n) h = go (leaf w) (is_tuple w) (items_short ws n (omega arith)) (items_short ws (arity w + n) (omega arith))
    where
      go : (t u : Bool) → items leaf e ws n ≡ refuse e → items leaf e ws (arity w + n) ≡ refuse e →
          ◌≡◌ {A = Res (List ℕ)} (elim t [ true ↦ items leaf e ws n | false ↦ elim u [ true ↦ items leaf e ws (arity w + n) | false ↦ refuse e ] ]) (refuse e)
      go true u p q = p
      go false true p q = q
      go false false p q = refl

-- THE LAWS OF `span_of`, one for each way the code goes
module _ (leaf : ℕ → Bool) where
  pub span_none : (s : List ℕ) (i : ℕ) → span_of leaf s i 0 ≡ Some i
  unfolding span_of
  span_none s i = rw items_zero (ap Some (omega arith))

  -- fewer words than items are left
  pub span_short : (s : List ℕ) (i n : ℕ) → length s - i < n → span_of leaf s i n ≡ None
  unfolding span_of
  span_short s i n h = rw (items_short leaf 5 (drop i s) n (omega (arith, length-drop i s)))

  module _ (s : List ℕ) (i n : ℕ) (h : i < length s) (p : 0 < n) where
    opened : items leaf 5 (drop i s) n ≡ items leaf 5 (get_or s i 0 ∷ drop (i + 1) s) (suc (n - 1))
    opened =
        let one-and : n ≡ suc (n - 1) = omega arith in
        ap (items leaf 5 (drop i s)) one-and ∙ ap (λ (x : List ℕ). items leaf 5 x (suc (n - 1))) (at_i s i h)

    -- the word at place i is read, and m items are still to come
    next : (m : ℕ) → items leaf 5 (get_or s i 0 ∷ drop (i + 1) s) (suc (n - 1)) ≡ items leaf 5 (drop (i + 1) s) m → span_of leaf s i n ≡ span_of leaf s (i + 1) m
    unfolding span_of
    next m q = ap (found s i) (opened ∙ q) ∙ shift (items leaf 5 (drop (i + 1) s) m) refl
      where
        shift : (r : Res (List ℕ)) → items leaf 5 (drop (i + 1) s) m ≡ r → found s i r ≡ found s (i + 1) r
        shift (refuse e) q = refl
        shift (done r) q =
            let t = items_tail leaf 5 (drop (i + 1) s) m r q in
            let k : length r ≡ length s - (i + 1) - t.0 = ap length (sym t.1) ∙ length-drop t.0 (drop (i + 1) s) ∙ rw length-drop in
            ap Some (rw (length-drop i s, length-drop (i + 1) s) (omega (arith, k)))

    pub span_leaf : leaf (get_or s i 0) ≡ true → span_of leaf s i n ≡ span_of leaf s (i + 1) (n - 1)
    span_leaf l = next (n - 1) (items_leaf leaf 5 (get_or s i 0) (drop (i + 1) s) (n - 1) l)

    pub span_tuple : leaf (get_or s i 0) ≡ false → is_tuple (get_or s i 0) ≡ true → span_of leaf s i n ≡ span_of leaf s (i + 1) (n - 1 + (get_or s i 0 - 4000000))
    span_tuple l q =
        let m = n - 1 + (get_or s i 0 - 4000000) in
        let sum : arity (get_or s i 0) + (n - 1) ≡ m = omega arith in
        next m (items_tuple leaf 5 (get_or s i 0) (drop (i + 1) s) (n - 1) l q ∙ ap (items leaf 5 (drop (i + 1) s)) sum)

    pub span_bad : leaf (get_or s i 0) ≡ false → is_tuple (get_or s i 0) ≡ false → span_of leaf s i n ≡ None
    unfolding span_of
    span_bad l q = ap (found s i) (opened ∙ items_bad leaf 5 (get_or s i 0) (drop (i + 1) s) (n - 1) l q)

  pub found_tail : (s : List ℕ) (i n j : ℕ) → span_of leaf s i n ≡ Some j →
      (items leaf 5 (drop i s) n ≡ done (drop j s)) × (i ≤ j) × (j ≤ i + (length s - i)) × (0 < n → i < j)
  unfolding span_of
  found_tail s i n j p = go (items leaf 5 (drop i s) n) refl
    where
      on : (r : List ℕ) → Some (i + (length (drop i s) - length r)) ≡ Some j → items leaf 5 (drop i s) n ≡ done r → Tail leaf 5 (drop i s) n r →
          (items leaf 5 (drop i s) n ≡ done (drop j s)) × (i ≤ j) × (j ≤ i + (length s - i)) × (0 < n → i < j)
      on r p' q t =
          let e : drop (i + t.0) s ≡ r = sym (drop-drop t.0 i s) ∙ t.1 in
          let m : length r ≡ length (drop i s) - t.0 = ap length (sym t.1) ∙ length-drop t.0 (drop i s) in
          let le = t.2 in
          let f : j ≡ i + t.0 = let y : i + (length (drop i s) - length r) ≡ j = cc in omega arith in
          (q ∙ ap done (rw f (sym e)), omega arith, omega (arith, length-drop i s), λ h. omega (arith, t.3 h))

      go : (q : Res (List ℕ)) → items leaf 5 (drop i s) n ≡ q → (items leaf 5 (drop i s) n ≡ done (drop j s)) × (i ≤ j) × (j ≤ i + (length s - i)) × (0 < n → i < j)
      go (refuse e) q = let z : ◌≡◌ {A = ℕ} 0 1 = cc (rw q at p) in absurd (omega arith)
      go (done r) q = on r (rw q at p) q (items_tail leaf 5 (drop i s) n r q)

  -- the next place is further on, and within the words
  pub span_grows : (s : List ℕ) (i j : ℕ) → span_of leaf s i 1 ≡ Some j → (i < j) × (j ≤ length s)
  span_grows s i j p = let (a, b, c, d) = found_tail s i 1 j p in (d (omega arith), omega (arith, d (omega arith)))

-- the refusal's number plays no part
abbrev recode : ℕ → Res (List ℕ) → Res (List ℕ)
recode e (refuse n) = refuse e
recode e (done r) = done r

pub items_recode : (leaf : ℕ → Bool) (e d : ℕ) (ws : List ℕ) (n : ℕ) → items leaf e ws n ≡ recode e (items leaf d ws n)
unfolding items
items_recode leaf e d [] zero = refl
items_recode leaf e d [] (suc n) = refl
items_recode leaf e d (w ∷ ws) zero = refl
items_recode leaf e d (w ∷ ws) (suc n) = go (leaf w) (is_tuple w) (items_recode leaf e d ws n) (items_recode leaf e d ws (arity w + n))
  where
    go : (t u : Bool) → items leaf e ws n ≡ recode e (items leaf d ws n) → items leaf e ws (arity w + n) ≡ recode e (items leaf d ws (arity w + n)) →
        elim t [ true ↦ items leaf e ws n | false ↦ elim u [ true ↦ items leaf e ws (arity w + n) | false ↦ refuse e ] ] ≡
        recode e (elim t [ true ↦ items leaf d ws n | false ↦ elim u [ true ↦ items leaf d ws (arity w + n) | false ↦ refuse d ] ])
    go true u p q = p
    go false true p q = q
    go false false p q = refl

-- THE LAWS OF `end_of`, one for each way that the code goes, and what stands before and behind that place
module _ (v : List ℕ) (j : ℕ) where
  is_end : (e : ℕ) → j ≤ e → (e ≤ length v) ⊎ (e ≡ j) → rest_of (drop j v) ≡ drop e v → e ≡ end_of v j
  unfolding end_of
  is_end e h l p = rw p (rw (length-drop j v, length-drop e v) (⊎_elim (λ a. omega arith) (λ a. omega arith) l))

  rest_at : (e : ℕ) → span_of (leaf_of Name) v j 1 ≡ Some e → rest_of (drop j v) ≡ drop e v
  unfolding rest_of leaf_of
  rest_at e p = let (a, b, c, d) = found_tail is_name v j 1 e p in rw (items_recode is_name 11 5 (drop j v) 1, a)

  rest_bad : span_of (leaf_of Name) v j 1 ≡ None → rest_of (drop j v) ≡ drop (length v) v
  unfolding rest_of leaf_of span_of
  rest_bad p = rw (items_recode is_name 11 5 (drop j v) 1, drop-length v) (go (items is_name 5 (drop j v) 1) p)
    where
      go : (q : Res (List ℕ)) → found v j q ≡ None → or_else (recode 11 q) [] ≡ []
      go (refuse e) z = refl
      go (done r) z = let y : ◌≡◌ {A = ℕ} 0 1 = cc in absurd (omega arith)

  rest_past : length v ≤ j → rest_of (drop j v) ≡ drop j v
  unfolding rest_of items
  rest_past h = rw (drop_of_length-le v h)

  pub end_at : (e : ℕ) → span_of (leaf_of Name) v j 1 ≡ Some e → e ≡ end_of v j
  end_at e p = let g = span_grows (leaf_of Name) v j e p in is_end e (omega arith) (inl g.1) (rest_at e p)

  pub end_bad : j < length v → span_of (leaf_of Name) v j 1 ≡ None → length v ≡ end_of v j
  end_bad h p = is_end (length v) (omega arith) (inl (omega arith)) (rest_bad p)

  pub end_past : length v ≤ j → j ≡ end_of v j
  end_past h = is_end j (omega arith) (inr refl) (rest_past h)

  -- the same from the answer for the item at place j
  pub end_or : (r : Option ℕ) → r ≡ span_of (leaf_of Name) v j 1 → unwrap_or r (max (length v) j) ≡ end_of v j
  end_or (Some e) p = end_at e (sym p)
  end_or None p = go (ltb j (length v)) refl
    where
      go : (b : Bool) → ltb j (length v) ≡ b → max (length v) j ≡ end_of v j
      go true t = let h = ltb-true j (length v) t in rw (← end_bad h (sym p)) (omega arith)
      go false t = let h = ltb-false j (length v) t in rw (← end_past h) (omega arith)

  -- e is where the first value from place j on ends
  of_rest : (e : ℕ) → e ≡ end_of v j → j ≤ e → rest_of (drop j v) ≡ drop e v → EndIs v j e
  unfolding first_of end_of
  of_rest e q h p =
      let n : e - j ≡ length (drop j v) - length (rest_of (drop j v)) = omega arith in
      record { left = sym p; first = ap (λ (k : ℕ). take k (drop j v)) n; above = h }

  pub end_is : (e : ℕ) → e ≡ end_of v j → EndIs v j e
  end_is e q = subst (EndIs v j) (sym q) (place (ltb j (length v)) refl)
    where
      word : j < length v → (s : Option ℕ) → span_of (leaf_of Name) v j 1 ≡ s → EndIs v j (end_of v j)
      word h (Some e) p =
          let g = span_grows (leaf_of Name) v j e p in
          subst (EndIs v j) (end_at e p) (of_rest e (end_at e p) (omega arith) (rest_at e p))
      word h None p = subst (EndIs v j) (end_bad h p) (of_rest (length v) (end_bad h p) (omega arith) (rest_bad p))

      place : (b : Bool) → ltb j (length v) ≡ b → EndIs v j (end_of v j)
      place true t = word (ltb-true j (length v) t) (span_of (leaf_of Name) v j 1) refl
      place false t = let h = ltb-false j (length v) t in subst (EndIs v j) (end_past h) (of_rest j (end_past h) (omega arith) (rest_past h))

-- THE LAWS OF `size_of`
module _ (leaf : ℕ → Bool) (pool : List ℕ) (p : ℕ) where
  pub size_is : span_of leaf (take 16 (drop p pool)) 0 1 ≡ size_of (at leaf pool p)
  unfolding span_of at
  size_is = go (items leaf 5 (take 16 (drop p pool)) 1)
    where
      go : (q : Res (List ℕ)) → found (take 16 (drop p pool)) 0 q ≡ size_of (elim q [ refuse n ↦ refuse n | done r ↦ done (take (length (take 16 (drop p pool)) - length r) (take 16 (drop p pool))) ])
      go (refuse n) = refl
      go (done r) = ap Some (omega (arith, length-take (length (take 16 (drop p pool)) - length r) (take 16 (drop p pool))))

  -- by the words of the pool from the place on
  pub size_of_rest : (rest : List ℕ) (n : ℕ) → rest ≡ drop p pool → n ≡ min (length rest) 16 → span_of leaf (take n rest) 0 1 ≡ size_of (at leaf pool p)
  size_of_rest rest n r e = ap (λ (x : List ℕ). span_of leaf x 0 1) (rw (← r) (cut (leb 16 (length rest)) refl)) ∙ size_is
    where
      cut : (b : Bool) → leb 16 (length rest) ≡ b → take n rest ≡ take 16 rest
      cut true t = let full : n ≡ 16 = omega (arith, leb-true 16 (length rest) t) in ap (λ (k : ℕ). take k rest) full
      cut false t = let h = leb-false 16 (length rest) t in take_all n rest (omega arith) ∙ sym (take_all 16 rest (omega arith))

  pub size_past : length pool ≤ p → None ≡ size_of (at leaf pool p)
  unfolding at items
  size_past h = rw (size_of, at, drop_of_length-le pool h)

  -- the words that `at` finds stand at the place
  pub at_words : (ws : List ℕ) → at leaf pool p ≡ done ws → (ws ≡ take (length ws) (drop p pool)) × (p + length ws ≤ length pool) × (length ws ≤ 16)
  unfolding at
  at_words ws e = go (items leaf 5 (take 16 (drop p pool)) 1) refl e
    where
      go : (q : Res (List ℕ)) → items leaf 5 (take 16 (drop p pool)) 1 ≡ q → elim q [ refuse n ↦ refuse n | done r ↦ done (take (length (take 16 (drop p pool)) - length r) (take 16 (drop p pool))) ] ≡ done ws →
          (ws ≡ take (length ws) (drop p pool)) × (p + length ws ≤ length pool) × (length ws ≤ 16)
      go (refuse n) a z = let y : ◌≡◌ {A = ℕ} 0 1 = cc in absurd (omega arith)
      go (done r) a z =
          let w = take 16 (drop p pool) in
          let u = items_tail leaf 5 w 1 r a in
          let v = ap length (sym u.1) ∙ length-drop u.0 w in
          let pos = u.3 (omega arith) in
          let k = length w - length r in
          let f : take k w ≡ ws = cc in
          let n : length ws ≡ k = ap length (sym f) ∙ length-take-le k w (omega arith) in
          let m = length-take 16 (drop p pool) in
          let d = length-drop p pool in
          (sym f ∙ take-take k 16 (drop p pool) (omega arith) ∙ ap (λ (j : ℕ). take j (drop p pool)) (sym n), omega arith, omega arith)

-- two tests that say the same
pub eqb_same : (a b c d : ℕ) → (a ≡ b → c ≡ d) → (c ≡ d → a ≡ b) → eqb a b ≡ eqb c d
eqb_same a b c d f g = go (eqb c d) refl
  where
    go : (t : Bool) → eqb c d ≡ t → eqb a b ≡ eqb c d
    go true e = eq-eqb a b (g (eqb-true c d e)) ∙ sym e
    go false e = ne_eqb a b (λ x. eqb-false c d e (f x)) ∙ sym e

-- a whole value
module _ (s : List ℕ) where
  pub value_long : 16 < length s → false ≡ is_value s
  unfolding is_value
  value_long h = sym (left_false _ _ (lt-leb _ _ h))

  pub value_at_lem : (e : ℕ) → length s ≤ 16 → span_of (leaf_of Name) s 0 1 ≡ Some e → eqb e (length s) ≡ is_value s
  unfolding is_value shaped span_of leaf_of ◌&◌
  value_at_lem e h p = rw (le-leb (length s) 16 h, shaped, items_recode is_name 11 5 s 1) (go (items is_name 5 s 1) refl p)
    where
      go : (q : Res (List ℕ)) → items is_name 5 s 1 ≡ q → found s 0 q ≡ Some e → eqb e (length s) ≡ elim (recode 11 q) [ refuse n ↦ false | done r ↦ eqb (length r) 0 ]
      go (refuse n) a z = let y : ◌≡◌ {A = ℕ} 0 1 = cc in absurd (omega arith)
      go (done r) a z =
          let t = items_tail is_name 5 s 1 r a in
          let m : length r ≡ length s - t.0 = ap length (sym t.1) ∙ length-drop t.0 s in
          let f : 0 + (length s - length r) ≡ e = cc in
          let pos = t.3 (omega arith) in
          eqb_same e (length s) (length r) 0 (λ x. omega (arith, t.2)) (λ x. omega (arith, t.2))

  pub value_bad : length s ≤ 16 → span_of (leaf_of Name) s 0 1 ≡ None → false ≡ is_value s
  unfolding is_value shaped span_of leaf_of ◌&◌
  value_bad h p = rw (le-leb (length s) 16 h, shaped, items_recode is_name 11 5 s 1) (go (items is_name 5 s 1) p)
    where
      go : (q : Res (List ℕ)) → found s 0 q ≡ None → false ≡ elim (recode 11 q) [ refuse n ↦ false | done r ↦ eqb (length r) 0 ]
      go (refuse n) z = refl
      go (done r) z = let y : ◌≡◌ {A = ℕ} 0 1 = cc in absurd (omega arith)

  -- by the answer for the item at place 0
  pub value_of : (r : Option ℕ) → length s ≤ 16 → r ≡ span_of (leaf_of Name) s 0 1 → option_eq eqb r (Some (length s)) ≡ is_value s
  value_of (Some e) h p = value_at_lem e h (sym p)
  value_of None h p = value_bad h (sym p)
