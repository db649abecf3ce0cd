-- Environments: looking up, substituting, and what 15 looks at.
use mathlib.Core.Path.{◌≡◌, refl, sym, ap, ap₂, ◌∙◌}
use mathlib.Core.Bool.{Bool, true, false, cond, false≢true}
use mathlib.Core.List.{List, [], ◌∷◌, ◌++◌}
use mathlib.Core.Logic.{⊎_elim}
use Prim.Native.Nat.{ℕ, zero, suc, ◌+◌, ◌<◌}
use native.Mathlib.Omega.{arith}
use borrow.Author.Tests.{leb-true, ltb-true, le-leb, lt-ltb}
use lib.Dec.{leb, ltb, eqb}
use lib.ListN.{length, get_or, length-append}
use Rattle.model.specs.Basics.{◌&◌, ◌or◌, bind, done, every}
use Rattle.model.specs.Values.{items, is_tuple, is_name, is_public, is_value, arity, binders, lookup, value, extend, substitute, word, is_name_in, Env}
use Rattle.model.specs.Table.{Term, nil, par, box, new, out, inp}
use Rattle.model.specs.Unfolding.{defined, tag_defined, any_names, tag_of}
use Rattle.model.specs.WellFormed.{Counts, held, held_word, wf_value, wf_tag}
use Rattle.model.proofs.Basics.Tests.{fst, snd, both, alt, alt_left, alt_right, every_append}
use Rattle.model.proofs.Basics.Names.{is_public_lem, held_of}
use Rattle.model.proofs.Formed.Keeping.{done_inj, items_words}
use Rattle.model.proofs.Basics.Items.{items_shaped, clash, items_zero, items_leaf, items_tuple, items_bad, items_add, items_append, shaped_items, tuple_not_name}

-- a test that all values and the default pass
pub look_all : (f : List ℕ → Bool) (ns : List ℕ) (vs : List (List ℕ)) (n : ℕ) (d : List ℕ) → f d ≡ true → every f vs ≡ true → f (lookup ns vs n d) ≡ true
look_all f [] vs n d p q = p
look_all f (m ∷ ms) [] n d p q = p
look_all f (m ∷ ms) (v ∷ vs) n d p q = look_all f ms vs n (cond (eqb m n) v d) (go (eqb m n)) (snd _ _ q)
  where
    go : (b : Bool) → f (cond b v d) ≡ true
    go true = fst _ _ q
    go false = p

pub look_append : (ns : List ℕ) (vs : List (List ℕ)) (ms : List ℕ) (us : List (List ℕ)) (n : ℕ) (d : List ℕ) → length vs ≡ length ns →
    lookup (ns ++ ms) (vs ++ us) n d ≡ lookup ms us n (lookup ns vs n d)
look_append [] [] ms us n d h = refl
look_append [] (v ∷ vs) ms us n d h = absurd (omega arith)
look_append (m ∷ ns) [] ms us n d h = absurd (omega arith)
look_append (m ∷ ns) (v ∷ vs) ms us n d h = look_append ns vs ms us n (cond (eqb m n) v d) (omega arith)

-- a name alone is a value
pub name_wf : (k : Counts) (n : ℕ) → is_name n ≡ true → held k n ≡ true → wf_value k (n ∷ []) ≡ true
unfolding wf_value is_value held_word
name_wf k n p h = both _ _ (both _ _ refl (items_shaped (n ∷ []) (items_leaf is_name 11 n [] 0 p ∙ items_zero is_name 11 []))) (both _ _ (alt_right _ _ h) refl)

held_public : (k : Counts) (n : ℕ) → is_public n ≡ true → held k n ≡ true
held_public k n p = held_of k n (is_public_lem p)

held_word_small : (k : Counts) (w : ℕ) → held_word k w ≡ true → w < 4000000 → held k w ≡ true
unfolding held_word
held_word_small k w a l = ⊎_elim (λ p. let q = leb-true 4000000 w p in absurd (omega arith)) (λ p. p) (alt _ _ a)

shape_of : (k : Counts) (v : List ℕ) → wf_value k v ≡ true → items is_name 11 v 1 ≡ done []
unfolding wf_value is_value
shape_of k v h = shaped_items v (snd _ _ (fst _ _ h))

-- the value of a public name is well formed
pub value_ok : (k : Counts) (ρ : Env) → every (wf_value k) ρ.vals ≡ true → (n : ℕ) → is_public n ≡ true → wf_value k (value ρ n) ≡ true
value_ok k ρ h n p = look_all (wf_value k) ρ.names ρ.vals n (n ∷ []) (name_wf k n (alt_left _ _ p) (held_public k n p)) h

-- a name that is bound to a name, or free, is held
pub word_held : (k : Counts) (ρ : Env) → every (wf_value k) ρ.vals ≡ true → (n : ℕ) → is_public n ≡ true → is_name_in ρ n ≡ true → held k (word ρ n) ≡ true
unfolding wf_value
word_held k ρ h n p q = go (value ρ n) (snd _ _ (value_ok k ρ h n p)) q
  where
    go : (v : List ℕ) → every (held_word k) v ≡ true → ltb (get_or v 0 0) 4000000 ≡ true → held k (get_or v 0 0) ≡ true
    go [] a b = held_public k 0 refl
    go (w ∷ ws) a b = held_word_small k w (fst _ _ a) (ltb-true w 4000000 b)

pub tag_held : (k : Counts) (ρ : Env) → every (wf_value k) ρ.vals ≡ true → (g : ℕ) → leb g 65 ≡ true → tag_defined ρ g ≡ true → wf_tag k (tag_of ρ g) ≡ true
unfolding wf_tag
tag_held k ρ h zero l q = refl
tag_held k ρ h (suc zero) l q = refl
tag_held k ρ h (suc (suc n)) l q = let a = leb-true (suc (suc n)) 65 l in word_held k ρ h n (le-leb n 63 (omega arith)) q

-- SUBSTITUTION keeps the shape, and the words are held
subst_shape : (k : Counts) (ρ : Env) → every (wf_value k) ρ.vals ≡ true → (v : List ℕ) (n : ℕ) → items is_public 5 v n ≡ done [] → items is_name 11 (substitute ρ v) n ≡ done []
unfolding items bind
subst_shape k ρ h [] zero e = refl
subst_shape k ρ h [] (suc n) e = absurd (clash e)
subst_shape k ρ h (w ∷ ws) zero e = let z : suc (length ws) ≡ 0 = ap length (done_inj e) in absurd (omega arith)
subst_shape k ρ h (w ∷ ws) (suc n) e = go (is_public w) refl (is_tuple w) refl (subst_shape k ρ h ws n) (subst_shape k ρ h ws (arity w + n))
  where
    next : 1 + n ≡ suc n
    next = omega arith

    go : (t : Bool) → is_public w ≡ t → (u : Bool) → is_tuple w ≡ u → (items is_public 5 ws n ≡ done [] → items is_name 11 (substitute ρ ws) n ≡ done []) →
        (items is_public 5 ws (arity w + n) ≡ done [] → items is_name 11 (substitute ρ ws) (arity w + n) ≡ done []) → items is_name 11 (substitute ρ (w ∷ ws)) (suc n) ≡ done []
    go true a u b f g =
        let i = shape_of k (value ρ w) (value_ok k ρ h w a) in
        rw (a, ← next, items_add is_name 11 (value ρ w ++ substitute ρ ws) 1 n, items_append is_name 11 (value ρ w) 1 (substitute ρ ws) i) (f (sym (items_leaf is_public 5 w ws n a) ∙ e))
    go false a true b f g =
        rw (a, items_tuple is_name 11 w (substitute ρ ws) n (tuple_not_name w b) b) (g (sym (items_tuple is_public 5 w ws n a b) ∙ e))
    go false a false b f g = absurd (clash (sym (items_bad is_public 5 w ws n a b) ∙ e))

subst_held : (k : Counts) (ρ : Env) → every (wf_value k) ρ.vals ≡ true → (v : List ℕ) → every (λ w. is_public w or is_tuple w) v ≡ true → every (held_word k) (substitute ρ v) ≡ true
unfolding wf_value held_word
subst_held k ρ h [] e = refl
subst_held k ρ h (w ∷ ws) e = go (is_public w) refl (subst_held k ρ h ws (snd _ _ e))
  where
    go : (t : Bool) → is_public w ≡ t → every (held_word k) (substitute ρ ws) ≡ true → every (held_word k) (substitute ρ (w ∷ ws)) ≡ true
    go true a r = rw a (every_append (held_word k) (value ρ w) (substitute ρ ws) (snd _ _ (value_ok k ρ h w a)) r)
    go false a r = rw a (both _ _ (alt_left _ _ (⊎_elim (λ p. absurd (false≢true (sym a ∙ p))) (λ p. fst _ _ p) (alt _ _ (fst _ _ e)))) r)

pub subst_ok : (k : Counts) (ρ : Env) → every (wf_value k) ρ.vals ≡ true → (v : List ℕ) → items is_public 5 v 1 ≡ done [] →
    (items is_name 11 (substitute ρ v) 1 ≡ done []) × (every (held_word k) (substitute ρ v) ≡ true)
subst_ok k ρ h v e = (subst_shape k ρ h v 1 e, subst_held k ρ h v (items_words is_public 5 v 1 [] e refl))

-- WHAT 15 LOOKS AT: only whether a name stands for a name
abbrev Same : Env → Env → Type 0
Same ρ π = (n : ℕ) → is_name_in ρ n ≡ is_name_in π n

abbrev pub Sized : Env → Type 0
Sized ρ = length ρ.vals ≡ length ρ.names

look_same : (ns : List ℕ) (vs : List (List ℕ)) (n : ℕ) (d d' : List ℕ) → ltb (get_or d 0 0) 4000000 ≡ ltb (get_or d' 0 0) 4000000 →
    ltb (get_or (lookup ns vs n d) 0 0) 4000000 ≡ ltb (get_or (lookup ns vs n d') 0 0) 4000000
look_same [] vs n d d' h = h
look_same (m ∷ ms) [] n d d' h = h
look_same (m ∷ ms) (v ∷ vs) n d d' h = look_same ms vs n (cond (eqb m n) v d) (cond (eqb m n) v d') (go (eqb m n))
  where
    go : (b : Bool) → ltb (get_or (cond b v d) 0 0) 4000000 ≡ ltb (get_or (cond b v d') 0 0) 4000000
    go true = refl
    go false = h

same_extend : (ρ π : Env) (ns : List ℕ) (vs : List (List ℕ)) → Sized ρ → Sized π → Same ρ π → Same (extend ρ ns vs) (extend π ns vs)
same_extend ρ π ns vs l l' h n =
    rw (look_append ρ.names ρ.vals ns vs n (n ∷ []) l, look_append π.names π.vals ns vs n (n ∷ []) l') (look_same ns vs n (value ρ n) (value π n) (h n))

pub sized_extend : (ρ : Env) (ns : List ℕ) (vs : List (List ℕ)) → length vs ≡ length ns → Sized ρ → Sized (extend ρ ns vs)
sized_extend ρ ns vs h l = omega (arith, length-append ρ.vals vs, length-append ρ.names ns)

pub length_any : (ns : List ℕ) → length (any_names ns) ≡ length ns
length_any [] = refl
length_any (n ∷ ns) = ap suc (length_any ns)

tag_same : (ρ π : Env) → Same ρ π → (g : ℕ) → tag_defined ρ g ≡ tag_defined π g
tag_same ρ π h zero = refl
tag_same ρ π h (suc zero) = refl
tag_same ρ π h (suc (suc n)) = h n

fits_same : (a : Term) (ρ π : Env) → Sized ρ → Sized π → Same ρ π → defined a ρ ≡ defined a π
unfolding defined
fits_same (nil n) ρ π l l' h = refl
fits_same (par n a b) ρ π l l' h = ap₂ ◌&◌ (fits_same a ρ π l l' h) (fits_same b ρ π l l' h)
fits_same (box n x a) ρ π l l' h = ap₂ ◌&◌ (h x) (fits_same a ρ π l l' h)
fits_same (new n x a) ρ π l l' h =
    fits_same a _ _ (sized_extend ρ (x ∷ []) ((0 ∷ []) ∷ []) refl l) (sized_extend π (x ∷ []) ((0 ∷ []) ∷ []) refl l') (same_extend ρ π (x ∷ []) ((0 ∷ []) ∷ []) l l' h)
fits_same (out n c g v) ρ π l l' h = ap₂ ◌&◌ (h c) (tag_same ρ π h g)
fits_same (inp n r c g p a) ρ π l l' h =
    ap₂ ◌&◌ (h c) (ap₂ ◌&◌ (tag_same ρ π h g)
    (fits_same a _ _ (sized_extend ρ (binders p) (any_names (binders p)) (length_any (binders p)) l) (sized_extend π (binders p) (any_names (binders p)) (length_any (binders p)) l')
    (same_extend ρ π (binders p) (any_names (binders p)) l l' h)))

-- a fresh name for any name
pub fits_fresh : (a : Term) (ρ : Env) (x m : ℕ) → Sized ρ → m < 4000000 → defined a (extend ρ (x ∷ []) ((0 ∷ []) ∷ [])) ≡ true → defined a (extend ρ (x ∷ []) ((m ∷ []) ∷ [])) ≡ true
fits_fresh a ρ x m l h e =
    fits_same a (extend ρ (x ∷ []) ((m ∷ []) ∷ [])) (extend ρ (x ∷ []) ((0 ∷ []) ∷ [])) (sized_extend ρ (x ∷ []) ((m ∷ []) ∷ []) refl l) (sized_extend ρ (x ∷ []) ((0 ∷ []) ∷ []) refl l) same ∙ e
  where
    same : Same (extend ρ (x ∷ []) ((m ∷ []) ∷ [])) (extend ρ (x ∷ []) ((0 ∷ []) ∷ []))
    same n = rw (look_append ρ.names ρ.vals (x ∷ []) ((m ∷ []) ∷ []) n (n ∷ []) l, look_append ρ.names ρ.vals (x ∷ []) ((0 ∷ []) ∷ []) n (n ∷ []) l) (go (eqb x n))
      where
        go : (b : Bool) → ltb (get_or (cond b (m ∷ []) (value ρ n)) 0 0) 4000000 ≡ ltb (get_or (cond b (0 ∷ []) (value ρ n)) 0 0) 4000000
        go true = lt-ltb m 4000000 h
        go false = refl
