-- The value that a label asks to enter: what its names are where its words pass the tests of `enter`, and what is wrong with it where they fail.
use mathlib.Core.Path.{◌≡◌, refl, sym, ap, ap₂, ◌∙◌, subst}
use mathlib.Core.Bool.{Bool, true, false, not, ◌&&◌, ◌||◌, false≢true}
use mathlib.Core.List.{List, [], ◌∷◌, ◌++◌, append_assoc}
use mathlib.Core.Logic.{◌⊎◌, inl, inr, ⊎_elim}
use Prim.Native.Nat.{ℕ, suc, ◌+◌, ◌≤◌}
use native.Mathlib.Nat.{zero-add, suc-add}
use native.Mathlib.Omega.{arith}
use borrow.Author.Tests.{leb-true, leb-false, le-leb, lt-ltb, not-false}
use lib.Dec.{leb, ltb, T}
use lib.ListN.{length, length-append}
use Rattle.calculus.specs.Syntax.{Val, Vals, nm, tup, vnil, vcons, AllV, AllVs, parent, plain}
use Rattle.calculus.specs.Transitions.{Label, tau, send, recv, names, namess, In}
use Rattle.model.specs.Basics.{◌&◌, ◌or◌, every}
use Rattle.model.specs.Values.{items, is_tuple, is_name, is_minted, is_value, arity}
use Rattle.model.specs.Side.{State}
use Rattle.model.specs.Load.{Composition}
use Rattle.model.specs.WellFormed.{Counts, counts, wf_value, ready}
use Rattle.model.specs.Step.{Label as Said, silent, enters, leaves, logs, labelled, known}
use Rattle.model.specs.Wrapper.{Wrapper}
use Rattle.model.specs.Process.{vwords, vswords, vcount, val_of}
use Rattle.model.specs.Agreement.{foreign, some_name, enterable, minted_number, Says, says_tau, says_in, says_out, says_log}
use Rattle.calculus.proofs.Renaming.{AllV-map, AllV-map2}
use Rattle.model.proofs.Basics.Tests.{fst, snd, both, alt, alt_left, alt_right, append-nil, or_none, one_fails}
use Rattle.model.proofs.Formed.Keeping.{Spoken, shaped_words}
use Rattle.model.proofs.Formed.Invariant.{known_held}
use Rattle.model.proofs.Processes.KnownNames.{outside_names, outside_in_lem, known_all, is_low, is_brought, has_left, by_known, held_minted}
use Rattle.model.proofs.Basics.Names.{minted_range, held_below, held_name}
use Rattle.model.proofs.Basics.Items.{items_zero, items_leaf, items_tuple, items_shaped, shaped_items, tuple_not_name, every_front, every_back}
use Rattle.model.proofs.Processes.ValueWords.{worded, val_back, val_written, wf_val_all}
use Rattle.model.proofs.Sound.Labels.{none_all, T_not, minted_number_is, enterable_is}

-- a name of a value is one of its words
mutual
  words-all : (f : ℕ → Bool) (v : Val ℕ) → every f (vwords v) ≡ true → AllV v (λ x. f x ≡ true)
  words-all f (nm x) e = fst _ _ e
  words-all f (tup vs) e = wordss_all f vs (snd _ _ e)

  wordss_all : (f : ℕ → Bool) (v : Vals ℕ) → every f (vswords v) ≡ true → AllVs v (λ x. f x ≡ true)
  wordss_all f vnil e = tt
  wordss_all f (vcons v vs) e = (words-all f v (every_front f (vwords v) (vswords vs) e), wordss_all f vs (every_back f (vwords v) (vswords vs) e))

-- a word that fails a test which tuple words pass is a name of the value
no_and : (c : Bool) → false & c ≡ false
unfolding ◌&◌
no_and c = refl

and_no : (c : Bool) → c & false ≡ false
unfolding ◌&◌
and_no true = refl
and_no false = refl

every_apart : (f : ℕ → Bool) (l m : List ℕ) → every f (l ++ m) ≡ false → (every f l ≡ false) ⊎ (every f m ≡ false)
every_apart f [] m e = inr e
every_apart f (x ∷ l) m e = ⊎_elim (λ p. inl (ap (λ (c : Bool). c & every f l) p ∙ no_and (every f l)))
    (λ p. ⊎_elim (λ q. inl (ap (λ (c : Bool). f x & c) q ∙ and_no (f x))) (λ q. inr q) (every_apart f l m p)) (one_fails (f x) (every f (l ++ m)) e)

some_app : (f : ℕ → Bool) (l m : List ℕ) → (some_name f l ≡ true) ⊎ (some_name f m ≡ true) → some_name f (l ++ m) ≡ true
some_app f [] m (inl p) = absurd (false≢true p)
some_app f [] m (inr p) = p
some_app f (x ∷ l) m h = go (f x) h (some_app f l m)
  where
    go : (c : Bool) → (c || some_name f l ≡ true) ⊎ (some_name f m ≡ true) → ((some_name f l ≡ true) ⊎ (some_name f m ≡ true) → some_name f (l ++ m) ≡ true) → c || some_name f (l ++ m) ≡ true
    go true h ih = refl
    go false h ih = ih h

module _ (f g : ℕ → Bool) (big : (k : ℕ) → f (4000000 + k) ≡ true) (fails : (x : ℕ) → f x ≡ false → g x ≡ true) where
  mutual
    pub some_fails : (v : Val ℕ) → every f (vwords v) ≡ false → some_name g (names v) ≡ true
    some_fails (nm x) e = ap (λ (c : Bool). c || false) (fails x (⊎_elim (λ p. p) (λ p. absurd (false≢true (sym p))) (one_fails (f x) true e)))
    some_fails (tup vs) e = somes_fail vs (⊎_elim (λ p. absurd (false≢true (sym p ∙ big (vcount vs)))) (λ p. p) (one_fails (f (4000000 + vcount vs)) (every f (vswords vs)) e))

    pub somes_fail : (v : Vals ℕ) → every f (vswords v) ≡ false → some_name g (namess v) ≡ true
    somes_fail vnil e = absurd (false≢true (sym e))
    somes_fail (vcons v vs) e = some_app g (names v) (namess vs) (⊎_elim (λ p. inl (some_fails v p)) (λ p. inr (somes_fail vs p)) (every_apart f (vwords v) (vswords vs) e))

-- the words of a value of names are one value
mutual
  one_word_lem : (v : Val ℕ) → 1 ≤ length (vwords v)
  one_word_lem (nm x) = omega arith
  one_word_lem (tup vs) = omega arith

  count_words : (vs : Vals ℕ) → vcount vs ≤ length (vswords vs)
  count_words vnil = omega arith
  count_words (vcons v vs) = omega (arith, one_word_lem v, count_words vs, length-append (vwords v) (vswords vs))

mutual
  reads_on : (v : Val ℕ) (r : List ℕ) (n : ℕ) → length (vwords v) ≤ 16 → AllV v (λ x. is_name x ≡ true) → items is_name 11 (vwords v ++ r) (suc n) ≡ items is_name 11 r n
  reads_on (nm x) r n l h = items_leaf is_name 11 x r n h
  reads_on (tup vs) r n l h =
      let c = count_words vs in
      let t : is_tuple (4000000 + vcount vs) ≡ true = both _ _ (le-leb 4000000 (4000000 + vcount vs) (omega arith)) (le-leb (4000000 + vcount vs) 4000015 (omega arith)) in
      items_tuple is_name 11 (4000000 + vcount vs) (vswords vs ++ r) n (tuple_not_name (4000000 + vcount vs) t) t
      ∙ ap (λ (k : ℕ). items is_name 11 (vswords vs ++ r) (k + n)) (let a : arity (4000000 + vcount vs) ≡ vcount vs = omega arith in a) ∙ reads_ons vs r n (omega arith) h

  reads_ons : (vs : Vals ℕ) (r : List ℕ) (n : ℕ) → length (vswords vs) ≤ 16 → AllVs vs (λ x. is_name x ≡ true) → items is_name 11 (vswords vs ++ r) (vcount vs + n) ≡ items is_name 11 r n
  reads_ons vnil r n l h = ap (items is_name 11 r) (zero-add n)
  reads_ons (vcons v vs) r n l h =
      let a = length-append (vwords v) (vswords vs) in
      ap₂ (items is_name 11) (append_assoc (vwords v) (vswords vs) r) (suc-add (vcount vs) n) ∙ reads_on v (vswords vs ++ r) (vcount vs + n) (omega arith) h.0 ∙ reads_ons vs r n (omega arith) h.1

value_of_names : (v : Val ℕ) → length (vwords v) ≤ 16 → AllV v (λ x. is_name x ≡ true) → is_value (vwords v) ≡ true
unfolding is_value
value_of_names v l h = both _ _ (le-leb (length (vwords v)) 16 l) (items_shaped (vwords v) (ap (λ (w : List ℕ). items is_name 11 w 1) (sym (append-nil (vwords v))) ∙ reads_on v [] 0 l h ∙ items_zero is_name 11 []))

is_T : (b : Bool) → b ≡ true → T b
is_T b e = subst (λ (c : Bool). T c) (sym e) tt

-- 11: the value is too long, or has a name that no table and no minting gives
pub no_value : (v : Val ℕ) → is_value (vwords v) ≡ false → T (ltb 16 (length (vwords v))) ⊎ T (foreign v)
no_value v e = by_length (leb (length (vwords v)) 16) refl (foreign v) refl
  where
    by_length : (t : Bool) → leb (length (vwords v)) 16 ≡ t → (u : Bool) → foreign v ≡ u → T (ltb 16 (length (vwords v))) ⊎ T (foreign v)
    by_length false p u q = inl (is_T _ (lt-ltb 16 (length (vwords v)) (leb-false (length (vwords v)) 16 p)))
    by_length true p true q = inr (is_T _ q)
    by_length true p false q = absurd (false≢true (sym e ∙ value_of_names v (leb-true (length (vwords v)) 16 p) (AllV-map v (λ x h. sym (enterable_is x) ∙ not-false (enterable x) h) (none_all (λ n. not (enterable n)) v q))))

-- 12: the value has a minted name that is not known
pub unknown_name : (s : State) (v : Val ℕ) → every (λ w. not (is_minted w) or known s w) (vwords v) ≡ false → T (some_name (λ n. minted_number n && not (known s n)) (names v))
unknown_name s v e = is_T _ (some_fails (λ w. not (is_minted w) or known s w) (λ n. minted_number n && not (known s n)) big fails v e)
  where
    not-minted : (x : ℕ) → 4000000 ≤ x → (t : Bool) → is_minted x ≡ t → not t ≡ true
    not-minted x l true q = absurd (omega (arith, (minted_range x q).1))
    not-minted x l false q = refl

    big : (k : ℕ) → not (is_minted (4000000 + k)) or known s (4000000 + k) ≡ true
    big k = alt_left _ _ (not-minted (4000000 + k) (omega arith) (is_minted (4000000 + k)) refl)

    by_cases : (x : ℕ) (m k : Bool) → is_minted x ≡ m → known s x ≡ k → not m or k ≡ false → minted_number x && not (known s x) ≡ true
    by_cases x true false p q h = ap₂ (λ (c d : Bool). c && not d) (minted_number_is x ∙ p) q
    by_cases x true true p q h = absurd (false≢true (sym h ∙ alt_right _ _ refl))
    by_cases x false k p q h = absurd (false≢true (sym h ∙ alt_left _ _ refl))

    fails : (x : ℕ) → not (is_minted x) or known s x ≡ false → minted_number x && not (known s x) ≡ true
    fails x h = by_cases x (is_minted x) (known s x) refl refl h

-- A VALUE THAT PASSES 11
none_app : (f : ℕ → Bool) (l m : List ℕ) → some_name f l ≡ false → some_name f m ≡ false → some_name f (l ++ m) ≡ false
none_app f [] m p q = q
none_app f (x ∷ l) m p q = let a = or_none (f x) (some_name f l) p in ap₂ (λ (c d : Bool). c || d) a.0 (none_app f l m a.1 q)

mutual
  pub all_none : (f : ℕ → Bool) (v : Val ℕ) → AllV v (λ x. f x ≡ false) → some_name f (names v) ≡ false
  all_none f (nm x) h = ap (λ (c : Bool). c || false) h
  all_none f (tup vs) h = alls_none f vs h

  pub alls_none : (f : ℕ → Bool) (v : Vals ℕ) → AllVs v (λ x. f x ≡ false) → some_name f (namess v) ≡ false
  alls_none f vnil h = refl
  alls_none f (vcons v vs) h = none_app f (names v) (namess vs) (all_none f v h.0) (alls_none f vs h.1)

pub usual_names : (v : Val ℕ) → AllV v (λ x. is_name x ≡ true) → T (not (foreign v))
usual_names v h = subst (λ (c : Bool). T (not c)) (sym (all_none (λ n. not (enterable n)) v (AllV-map v (λ x q. ap not (enterable_is x ∙ q)) h))) tt

-- a value whose names are held is the words of a value with no foreign name
pub value_written : (k : Counts) (v : List ℕ) → wf_value k v ≡ true → v ≡ vwords (val_of v)
unfolding wf_value is_value
value_written k v e = sym (val_written v (shaped_items v (snd _ _ (fst _ _ e))))

pub not_strange : (k : Counts) (v : List ℕ) → wf_value k v ≡ true → T (not (foreign (val_of v)))
not_strange k v e = usual_names (val_of v) (wf_val_all (λ x. is_name x ≡ true) k (held_name k) (alt_left _ _ refl) v e)

-- such a value has a label, and so has a silent answer without a value
pub spoken_says : (w : Wrapper) (n : ℕ) (k : Counts) (l : Said) (v : List ℕ) → Spoken w.copies k l v → (L : Label) × Says w (labelled l n v) L
spoken_says w n k silent v h = subst (λ (u : List ℕ). (L : Label) × Says w (labelled silent n u) L) (sym h) (tau, says_tau)
spoken_says w n k enters v h = (recv (w.inlet n) (plain parent) (val_of v), says_in (value_written k v h) (not_strange k v h))
spoken_says w n k leaves v h = (send (w.outlet n) (plain parent) (val_of v), says_out (value_written k v h) (not_strange k v h))
spoken_says w n k logs v (h, (x, q)) = (send x (plain parent) (val_of v), says_log q (value_written k v h) (not_strange k v h))

module _ (v : Val ℕ) (wr : T (not (some_name is_tuple (names v)))) (iv : is_value (vwords v) ≡ true) where
  words_ok : every worded (vwords v) ≡ true
  unfolding is_value
  words_ok = shaped_words (vwords v) (snd _ _ iv)

  pub names_ok : AllV v (λ x. is_name x ≡ true)
  names_ok = AllV-map2 v (λ x p q. ⊎_elim (λ a. a) (λ a. absurd (false≢true (sym q ∙ a))) (alt _ _ p)) (words-all worded v words_ok) (none_all is_tuple v (T_not (some_name is_tuple (names v)) wr))

  pub same_value_lem : val_of (vwords v) ≡ v
  same_value_lem = val_back v words_ok (none_all is_tuple v (T_not (some_name is_tuple (names v)) wr))

  -- and 12: its names are known
  module _ (b : Composition) (s : State) (wf : ready b s ≡ true) (kv : every (λ w. not (is_minted w) or known s w) (vwords v) ≡ true) where
    name_known : (x : ℕ) → is_name x ≡ true → not (is_minted x) or known s x ≡ true → In (known_all s) x
    name_known x n k = by_known outside_names s x (⊎_elim (λ p. let l = leb-true x 63 p in is_low (omega arith))
        (λ p. ⊎_elim (λ m. ⊎_elim (λ z. absurd (false≢true (sym (ap not m) ∙ z))) (λ y. has_left (held_minted b s x (held_below (counts s) x m (known_held b s wf x y m))) y) (alt _ _ k)) (λ o. is_brought (outside_in_lem x o)) (alt _ _ p))
        (alt _ _ n))

    pub names_known : AllV v (In (known_all s))
    names_known = AllV-map2 v name_known names_ok (words-all (λ w. not (is_minted w) or known s w) v kv)
