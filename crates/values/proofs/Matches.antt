-- Laws of `matches` at places of a pattern and a value, with the values bound before: one for each way that the code goes.
use mathlib.Core.Path.{◌≡◌, refl, sym, ap, ◌∙◌}
use mathlib.Core.Bool.{Bool, true, false, cond}
use mathlib.Core.List.{List, [], ◌∷◌, ◌++◌, append_assoc, append-nil}
use Prim.Native.Nat.{ℕ, zero, suc, ◌+◌, ◌-◌, ◌<◌, ◌≤◌}
use native.Mathlib.Nat.{zero-add, suc-add, add_assoc, add-zero}
use native.Mathlib.Omega.{arith}
use borrow.Author.Tests.{le-leb, lt-leb, eq-eqb, ne_eqb}
use denote.Ref.{Bor}
use lib.Dec.{eqb}
use lib.ListN.{length, take, drop, set, length-drop, drop_of_length-le, length-take, length-map}
use lib.Seq.{take_all, length-take-le}
use Rattle.std.specs.Slice.{IsItemAt}
use Rattle.std.specs.declared.option.Option.{Option}
use Rattle.std.specs.declared.option.Option.TheVariants.{None, Some}
use Rattle.model.specs.Basics.{Res, refuse, done, bind}
use Rattle.model.specs.Values.{is_public, is_tuple, arity, rest_of, first_of, Fit, binds, matches, binders}
use Rattle.values.specs.declared.Part.{Part}
use Rattle.values.specs.declared.Bound.{Bound}
use Rattle.values.specs.declared.Matched.{Matched}
use Rattle.values.specs.Match.{part_of, view_bound, fit, fit_of, stored_after}
use Rattle.values.proofs.Lists.{at_i, take_again, view_push, push_fits, push_full}
use Rattle.values.proofs.Spans.{EndIs}

-- what the code answers
abbrev fit_at : List ℕ → List ℕ → Matched → Fit
fit_at p v m = fit (drop m.pattern p) (drop m.value v) (view_bound v m.bound)

pub fit_no : (p v : List ℕ) → fit_of p v None ≡ refuse 14
unfolding fit_of
fit_no p v = refl

pub fit_yes : (p v : List ℕ) (m : Matched) → fit_of p v (Some m) ≡ done (fit_at p v m)
unfolding fit_of
fit_yes p v m = refl

-- no items
after_none : (bs : List (List ℕ)) (p v : List ℕ) → stored_after bs (matches p 0 v) ≡ done (fit p v (take 8 bs))
unfolding stored_after matches
after_none bs [] v = rw append-nil
after_none bs (p ∷ ps) v = rw append-nil

-- a name's value, before those of what follows
after_binds : (bs : List (List ℕ)) (x : List ℕ) (q : Res Fit) → stored_after bs (bind q (λ m. done (binds x m))) ≡ stored_after (bs ++ (x ∷ [])) q
unfolding stored_after bind
after_binds bs x (refuse n) = refl
after_binds bs x (done m) = rw (append_assoc bs (x ∷ []) m.bound)

-- cutting what came before to eight changes nothing
after_cut : (bs : List (List ℕ)) (q : Res Fit) → stored_after (take 8 bs) q ≡ stored_after bs q
unfolding stored_after
after_cut bs (refuse n) = refl
after_cut bs (done m) = ap (λ (l : List (List ℕ)). done (fit m.pattern m.value l)) (take_again 8 bs m.bound)

-- n items more
abbrev further : ℕ → Fit → Res Fit
further n m = stored_after m.bound (matches m.pattern n m.value)

-- a items and then b
after_add : (p : List ℕ) (a b : ℕ) (v : List ℕ) (bs : List (List ℕ)) → stored_after bs (matches p (a + b) v) ≡ bind (stored_after bs (matches p a v)) (further b)
unfolding stored_after matches bind
after_add [] zero b v bs = rw zero-add (sym (ap (λ (l : List (List ℕ)). stored_after l (matches [] b v)) (ap (take 8) (append-nil bs)) ∙ after_cut bs (matches [] b v)))
after_add [] (suc a) b v bs = rw suc-add
after_add (p ∷ ps) zero b v bs = rw zero-add (sym (ap (λ (l : List (List ℕ)). stored_after l (matches (p ∷ ps) b v)) (ap (take 8) (append-nil bs)) ∙ after_cut bs (matches (p ∷ ps) b v)))
after_add (p ∷ ps) (suc a) b v bs =
    rw suc-add (go (is_tuple p) (is_public p) v (λ xs. after_add ps (arity p + a) b xs bs) (after_add ps a b (rest_of v) (bs ++ (first_of v ∷ []))) (after_add ps a b (rest_of v) bs))
  where
    tup : (ws : List ℕ) (t : Bool) → stored_after bs (matches ps ((arity p + a) + b) ws) ≡ bind (stored_after bs (matches ps (arity p + a) ws)) (further b) →
        stored_after bs (elim t [ true ↦ matches ps (arity p + (a + b)) ws | false ↦ refuse 14 ]) ≡ bind (stored_after bs (elim t [ true ↦ matches ps (arity p + a) ws | false ↦ refuse 14 ])) (further b)
    tup ws true ih = rw (← add_assoc (arity p) a b) ih
    tup ws false ih = refl

    go : (t u : Bool) (v : List ℕ) → ((xs : List ℕ) → stored_after bs (matches ps ((arity p + a) + b) xs) ≡ bind (stored_after bs (matches ps (arity p + a) xs)) (further b)) →
        stored_after (bs ++ (first_of v ∷ [])) (matches ps (a + b) (rest_of v)) ≡ bind (stored_after (bs ++ (first_of v ∷ [])) (matches ps a (rest_of v))) (further b) →
        stored_after bs (matches ps (a + b) (rest_of v)) ≡ bind (stored_after bs (matches ps a (rest_of v))) (further b) →
        stored_after bs (elim t [
          | true ↦ elim v [ [] ↦ refuse 14 | w ∷ ws ↦ elim (eqb w p) [ true ↦ matches ps (arity p + (a + b)) ws | false ↦ refuse 14 ] ]
          | false ↦ elim u [ true ↦ bind (matches ps (a + b) (rest_of v)) (λ m. done (binds (first_of v) m)) | false ↦ matches ps (a + b) (rest_of v) ]
        ]) ≡
        bind (stored_after bs (elim t [
          | true ↦ elim v [ [] ↦ refuse 14 | w ∷ ws ↦ elim (eqb w p) [ true ↦ matches ps (arity p + a) ws | false ↦ refuse 14 ] ]
          | false ↦ elim u [ true ↦ bind (matches ps a (rest_of v)) (λ m. done (binds (first_of v) m)) | false ↦ matches ps a (rest_of v) ]
        ])) (further b)
    go true u [] x y z = refl
    go true u (w ∷ ws) x y z = tup ws (eqb w p) (x ws)
    go false true v x y z =
        after_binds bs (first_of v) (matches ps (a + b) (rest_of v)) ∙ y ∙ ap (λ (q : Res Fit). bind q (further b)) (sym (after_binds bs (first_of v) (matches ps a (rest_of v))))
    go false false v x y z = z

-- the first item, then the rest
first_then : (p v : List ℕ) (bs : List (List ℕ)) (k : ℕ) → ((k ≡ 0) → ⊥) → stored_after bs (matches p k v) ≡ bind (stored_after bs (matches p 1 v)) (further (k - 1))
first_then p v bs k n = ap (λ (m : ℕ). stored_after bs (matches p m v)) one-and ∙ after_add p 1 (k - 1) v bs
  where
    one-and : k ≡ 1 + (k - 1)
    one-and = omega arith

pub parts_more : (p v : List ℕ) (bs : List (List ℕ)) (k : ℕ) (m : Fit) → ((k ≡ 0) → ⊥) → stored_after bs (matches p 1 v) ≡ done m →
    stored_after bs (matches p k v) ≡ stored_after m.bound (matches m.pattern (k - 1) m.value)
unfolding bind
parts_more p v bs k m n e = first_then p v bs k n ∙ rw e

pub parts_stop : (p v : List ℕ) (bs : List (List ℕ)) (k e : ℕ) → ((k ≡ 0) → ⊥) → stored_after bs (matches p 1 v) ≡ refuse e → stored_after bs (matches p k v) ≡ refuse e
unfolding bind
parts_stop p v bs k e n q = first_then p v bs k n ∙ rw q

-- the parts stored are at most eight
bound_few : (v : List ℕ) (b : Bound) → length b.rows ≡ 8 → take 8 (view_bound v b) ≡ view_bound v b
bound_few v b full = take_all 8 (view_bound v b) (omega (arith, length-map (take b.n b.rows) (part_of v), length-take b.n b.rows))

-- one part more, stored or not
module _ (v : List ℕ) (b : Bound) (p : Part) (full : length b.rows ≡ 8) where
  pub bound_in : b.n < 8 → view_bound v (record { rows = set b.rows b.n p; n = b.n + 1 }) ≡ take 8 (view_bound v b ++ (part_of v p ∷ []))
  bound_in h =
      let n = length-map (take b.n b.rows) (part_of v) ∙ length-take-le b.n b.rows (omega arith) in
      view_push (part_of v) b.rows b.n p (omega arith) ∙ push_fits 8 (view_bound v b) (part_of v p) (omega arith)

  pub bound_out : 8 ≤ b.n → view_bound v b ≡ take 8 (view_bound v b ++ (part_of v p ∷ []))
  bound_out h = push_full 8 (view_bound v b) (part_of v p ∷ []) (length-map (take b.n b.rows) (part_of v) ∙ ap length (take_all b.n b.rows (omega arith)) ∙ full)

pub parts_none : (p v : List ℕ) (i j k : ℕ) (b : Bound) → length b.rows ≡ 8 → k ≡ 0 →
    fit_of p v (Some (record { pattern = i; value = j; bound = b })) ≡ stored_after (view_bound v b) (matches (drop i p) k (drop j v))
parts_none p v i j k b full z = rw z (fit_yes p v _ ∙ sym (after_none (view_bound v b) (drop i p) (drop j v) ∙ ap (λ (l : List (List ℕ)). done (fit (drop i p) (drop j v) l)) (bound_few v b full)))

-- one item at the head of the pattern
module _ (w : ℕ) (ps : List ℕ) where
  tuple_eq : (x : ℕ) (xs : List ℕ) → is_tuple w ≡ true → x ≡ w → matches (w ∷ ps) 1 (x ∷ xs) ≡ matches ps (w - 4000000) xs
  unfolding matches
  tuple_eq x xs t e = rw (t, matches, eq-eqb x w e, add-zero)

  tuple_ne : (x : ℕ) (xs : List ℕ) → is_tuple w ≡ true → ((x ≡ w) → ⊥) → matches (w ∷ ps) 1 (x ∷ xs) ≡ refuse 14
  unfolding matches
  tuple_ne x xs t e = rw (t, matches, ne_eqb x w e)

  tuple_nil : is_tuple w ≡ true → matches (w ∷ ps) 1 [] ≡ refuse 14
  unfolding matches
  tuple_nil t = rw (t, matches)

  name_eq : (v : List ℕ) → is_tuple w ≡ false → is_public w ≡ true → matches (w ∷ ps) 1 v ≡ bind (matches ps 0 (rest_of v)) (λ m. done (binds (first_of v) m))
  unfolding matches
  name_eq v t e = rw (t, e, matches)

  wild_eq : (v : List ℕ) → is_tuple w ≡ false → is_public w ≡ false → matches (w ∷ ps) 1 v ≡ matches ps 0 (rest_of v)
  unfolding matches
  wild_eq v t e = rw (t, e, matches)

refused_is : (bs : List (List ℕ)) (q : Res Fit) → q ≡ refuse 14 → refuse 14 ≡ stored_after bs q
unfolding stored_after
refused_is bs q e = rw e

-- what `get` finds at a place
pub got : (s : List ℕ) (i : ℕ) (r : Bor ℕ) → IsItemAt s i (Some r) → drop i s ≡ r.now ∷ drop (i + 1) s
got s i r h = at_i s i h.3.0 ∙ ap (λ (w : ℕ). w ∷ drop (i + 1) s) (sym (h.4 (omega arith) 0))

pub got_none : (s : List ℕ) (i : ℕ) → IsItemAt s i None → length s ≤ i
got_none s i h = h.3

-- one item, at place i of the pattern p and place j of the value v, after the parts b: what the code answers is what `matches` gives
module _ (p v : List ℕ) (i j : ℕ) (b : Bound) where
  -- the answer of one item
  abbrev One : Option Matched → Type 0
  One m = fit_of p v m ≡ stored_after (view_bound v b) (matches (drop i p) 1 (drop j v))

  no : matches (drop i p) 1 (drop j v) ≡ refuse 14 → One None
  no q = fit_no p v ∙ refused_is (view_bound v b) _ q

  -- the pattern has ended
  pub item_short : length p ≤ i → One None
  unfolding matches
  item_short h = no (rw (drop_of_length-le p h, matches))

  module _ (w : ℕ) (h : drop i p ≡ w ∷ drop (i + 1) p) where
    module _ (t : is_tuple w ≡ true) where
      -- the same tuple word
      pub item_tuple : (x : ℕ) → drop j v ≡ x ∷ drop (j + 1) v → x ≡ w → (m : Option Matched) →
          fit_of p v m ≡ stored_after (view_bound v b) (matches (drop (i + 1) p) (w - 4000000) (drop (j + 1) v)) → One m
      item_tuple x l e m q = q ∙ ap (stored_after (view_bound v b)) (sym (rw (h, l) (tuple_eq w (drop (i + 1) p) x (drop (j + 1) v) t e)))

      -- another word
      pub item_other : (x : ℕ) → drop j v ≡ x ∷ drop (j + 1) v → ((x ≡ w) → ⊥) → One None
      item_other x l e = no (rw (h, l) (tuple_ne w (drop (i + 1) p) x (drop (j + 1) v) t e))

      -- the value has ended
      pub item_over : length v ≤ j → One None
      item_over l = no (rw (h, drop_of_length-le v l) (tuple_nil w (drop (i + 1) p) t))

    module _ (t : is_tuple (w) ≡ false) (e : ℕ) (z : EndIs v j e) where
      -- a name
      pub item_name : w ≤ 63 → (c : Bound) → view_bound v c ≡ take 8 (view_bound v b ++ (part_of v (record { start = j; len = e - j }) ∷ [])) →
          One (Some (record { pattern = i + 1; value = e; bound = c }))
      item_name n c q =
          let bs = view_bound v b in
          let x = take (e - j) (drop j v) in
          fit_yes p v _ ∙ ap (λ (l : List (List ℕ)). done (fit (drop (i + 1) p) (drop e v) l)) q ∙
          sym (ap (stored_after bs) (rw (h, z.left, z.first) (name_eq (w) (drop (i + 1) p) (drop j v) t (le-leb _ _ n))) ∙
          after_binds bs x (matches (drop (i + 1) p) 0 (drop e v)) ∙ after_none (bs ++ (x ∷ [])) (drop (i + 1) p) (drop e v))

      -- the wildcard
      pub item_wild : 63 < w → length b.rows ≡ 8 → One (Some (record { pattern = i + 1; value = e; bound = b }))
      item_wild n full =
          fit_yes p v _ ∙ sym (ap (stored_after (view_bound v b)) (rw (h, z.left) (wild_eq (w) (drop (i + 1) p) (drop j v) t (lt-leb _ _ n))) ∙
          after_none (view_bound v b) (drop (i + 1) p) (drop e v) ∙ ap (λ (l : List (List ℕ)). done (fit (drop (i + 1) p) (drop e v) l)) (bound_few v b full))

-- one item makes the pattern shorter
clash : {n : ℕ} {a : Fit} → refuse n ≡ done a → ⊥
clash p = let z : ◌≡◌ {A = ℕ} 0 1 = cc in omega arith

abbrev length_of : Res Fit → ℕ
length_of (refuse n) = 0
length_of (done m) = length m.pattern

matches_le : (p : List ℕ) (n : ℕ) (v : List ℕ) (m : Fit) → matches p n v ≡ done m → (length m.pattern ≤ length p) × (0 < n → length m.pattern < length p)
unfolding matches bind
matches_le [] zero v m e = let z = ap length_of e in (omega arith, λ h. omega arith)
matches_le [] (suc n) v m e = absurd (clash e)
matches_le (p ∷ ps) zero v m e = let z = ap length_of e in (omega arith, λ h. omega arith)
matches_le (p ∷ ps) (suc n) v m e = go (is_tuple p) (is_public p) v (λ xs q. (matches_le ps (arity p + n) xs m q).0) (λ k q. (matches_le ps n (rest_of v) k q).0) e
  where
    out : length m.pattern ≤ length ps → (length m.pattern ≤ length (p ∷ ps)) × (0 < suc n → length m.pattern < length (p ∷ ps))
    out l = (omega arith, λ h. omega arith)

    tup : (t : Bool) (ws : List ℕ) → (matches ps (arity p + n) ws ≡ done m → length m.pattern ≤ length ps) → ◌≡◌ {A = Res Fit} (elim t [ true ↦ matches ps (arity p + n) ws | false ↦ refuse 14 ]) (done m) → length m.pattern ≤ length ps
    tup true ws f q = f q
    tup false ws f q = absurd (clash q)

    name : (x : List ℕ) (r : Res Fit) → ((k : Fit) → r ≡ done k → length k.pattern ≤ length ps) → bind r (λ k. done (binds x k)) ≡ done m → length m.pattern ≤ length ps
    name x (refuse d) f q = absurd (clash q)
    name x (done k) f q = let z = ap length_of q in let l = f k refl in omega arith

    go : (t u : Bool) (v : List ℕ) → ((xs : List ℕ) → matches ps (arity p + n) xs ≡ done m → length m.pattern ≤ length ps) →
        ((k : Fit) → matches ps n (rest_of v) ≡ done k → length k.pattern ≤ length ps) →
        ◌≡◌ {A = Res Fit}
        (elim t [
          | true ↦ elim v [ [] ↦ refuse 14 | w ∷ ws ↦ elim (eqb w p) [ true ↦ matches ps (arity p + n) ws | false ↦ refuse 14 ] ]
          | false ↦ elim u [ true ↦ bind (matches ps n (rest_of v)) (λ m. done (binds (first_of v) m)) | false ↦ matches ps n (rest_of v) ]
        ]) (done m) → (length m.pattern ≤ length (p ∷ ps)) × (0 < suc n → length m.pattern < length (p ∷ ps))
    go true u [] x y q = absurd (clash q)
    go true u (w ∷ ws) x y q = out (tup (eqb w p) ws (x ws) q)
    go false true v x y q = out (name (first_of v) (matches ps n (rest_of v)) y q)
    go false false v x y q = out (y m q)

-- the measure falls
pub item_falls : (p v : List ℕ) (m : Matched) (i : ℕ) (x : List ℕ) (bs : List (List ℕ)) → fit_of p v (Some m) ≡ stored_after bs (matches (drop i p) 1 x) → length p - m.pattern < length p - i
unfolding stored_after
item_falls p v m i x bs e = go (matches (drop i p) 1 x) refl (sym e ∙ fit_yes p v m)
  where
    go : (q : Res Fit) → matches (drop i p) 1 x ≡ q → stored_after bs q ≡ done (fit (drop m.pattern p) (drop m.value v) (view_bound v m.bound)) → length p - m.pattern < length p - i
    go (refuse n) a z = absurd (clash z)
    go (done k) a z =
        let l = (matches_le (drop i p) 1 x k a).1 (omega arith) in
        let s = ap length_of z in
        omega (arith, length-drop i p, length-drop m.pattern p)

-- a whole pattern
pub whole : (p v : List ℕ) (m : Option Matched) (b : Bound) → b.n ≡ 0 → fit_of p v m ≡ stored_after (view_bound v b) (matches p 1 v) → fit_of p v m ≡ stored_after [] (matches p 1 v)
whole p v m b z e = e ∙ ap (λ (l : List (List ℕ)). stored_after l (matches p 1 v)) none
  where
    none : view_bound v b ≡ []
    none = rw z

-- a pattern binds at most as many values as it has names, so that with at most eight names all are stored
binders_tail : (p : ℕ) (ps : List ℕ) → length (binders ps) ≤ length (binders (p ∷ ps))
binders_tail p ps = go (is_public p)
  where
    go : (u : Bool) → length (binders ps) ≤ length (cond u (p ∷ binders ps) (binders ps))
    go true = omega arith
    go false = omega arith

abbrev bound_of : Res Fit → ℕ
bound_of (refuse n) = 0
bound_of (done m) = length m.bound

bound_le : (p : List ℕ) (n : ℕ) (v : List ℕ) → bound_of (matches p n v) ≤ length (binders p)
unfolding matches bind
bound_le [] zero v = omega arith
bound_le [] (suc n) v = omega arith
bound_le (p ∷ ps) zero v = omega arith
bound_le (p ∷ ps) (suc n) v = go (is_tuple p) (is_public p) refl v (λ xs. bound_le ps (arity p + n) xs) (bound_le ps n (rest_of v))
  where
    less : (k : ℕ) → k ≤ length (binders ps) → k ≤ length (binders (p ∷ ps))
    less k l = omega (arith, binders_tail p ps)

    tup : (t : Bool) (ws : List ℕ) → bound_of (matches ps (arity p + n) ws) ≤ length (binders ps) → bound_of (elim t [ true ↦ matches ps (arity p + n) ws | false ↦ refuse 14 ]) ≤ length (binders ps)
    tup true ws l = l
    tup false ws l = omega arith

    name : (x : List ℕ) (q : Res Fit) → bound_of q ≤ length (binders ps) → bound_of (bind q (λ m. done (binds x m))) ≤ suc (length (binders ps))
    name x (refuse d) l = omega arith
    name x (done m) l = omega arith

    go : (t u : Bool) → is_public p ≡ u → (v : List ℕ) → ((xs : List ℕ) → bound_of (matches ps (arity p + n) xs) ≤ length (binders ps)) → bound_of (matches ps n (rest_of v)) ≤ length (binders ps) →
        bound_of (elim t [
          | true ↦ elim v [ [] ↦ refuse 14 | w ∷ ws ↦ elim (eqb w p) [ true ↦ matches ps (arity p + n) ws | false ↦ refuse 14 ] ]
          | false ↦ elim u [ true ↦ bind (matches ps n (rest_of v)) (λ m. done (binds (first_of v) m)) | false ↦ matches ps n (rest_of v) ]
        ]) ≤ length (binders (p ∷ ps))
    go true u a [] x y = omega arith
    go true u a (w ∷ ws) x y = less _ (tup (eqb w p) ws (x ws))
    go false true a v x y = rw a (name (first_of v) (matches ps n (rest_of v)) y)
    go false false a v x y = less _ y

pub all_stored : (p v : List ℕ) (n : ℕ) → length (binders p) ≤ 8 → stored_after [] (matches p n v) ≡ matches p n v
unfolding stored_after
all_stored p v n h = go (matches p n v) (bound_le p n v)
  where
    go : (q : Res Fit) → bound_of q ≤ length (binders p) → stored_after [] q ≡ q
    go (refuse e) l = refl
    go (done m) l = ap (λ (bs : List (List ℕ)). done (fit m.pattern m.value bs)) (take_all 8 m.bound (omega arith))

-- what `matching` says, for a caller: it refuses what `matches` refuses, and gives what `matches` gives
pub matched_no : (p v : List ℕ) → fit_of p v None ≡ stored_after [] (matches p 1 v) → matches p 1 v ≡ refuse 14
unfolding stored_after
matched_no p v e = go (matches p 1 v) (sym e ∙ fit_no p v)
  where
    go : (q : Res Fit) → stored_after [] q ≡ refuse 14 → q ≡ refuse 14
    go (refuse n) z = z
    go (done k) z = absurd (clash (sym z))

pub matched_yes : (p v : List ℕ) (m : Matched) → fit_of p v (Some m) ≡ stored_after [] (matches p 1 v) → length (binders p) ≤ 8 →
    matches p 1 v ≡ done (fit_at p v m)
matched_yes p v m e h = sym (all_stored p v 1 h) ∙ sym e ∙ fit_yes p v m
