-- Words read as values, and values written as words.
use mathlib.Core.Path.{◌≡◌, refl, sym, ap, ap₂, ◌∙◌, subst}
use mathlib.Core.Bool.{Bool, true, false, ◌||◌, false≢true}
use mathlib.Core.List.{List, [], ◌∷◌, ◌++◌, append_assoc}
use mathlib.Core.Logic.{⊎_elim}
use Prim.Native.Nat.{ℕ, zero, suc, ◌+◌, ◌-◌, ◌<◌, ◌≤◌}
use native.Mathlib.Nat.{zero-add, suc-add}
use native.Mathlib.Omega.{arith}
use borrow.Author.Tests.{leb-true, ne_eqb}
use lib.Dec.{eqb}
use lib.ListN.{length}
use Rattle.calculus.specs.Syntax.{Val, Vals, nm, tup, vnil, vcons, AllV, AllVs}
use Rattle.calculus.specs.Transitions.{mem, names, namess}
use Rattle.model.specs.Basics.{◌&◌, ◌or◌, done, every}
use Rattle.model.specs.Values.{items, is_tuple, is_name, is_value, arity}
use Rattle.model.specs.WellFormed.{Counts, held, held_word, wf_value}
use Rattle.model.specs.Process.{vwords, vswords, vcount, first_v, behind_v, reads, head_v, val_of}
use Rattle.model.proofs.Basics.Tests.{fst, snd, both, alt, every_two, append-nil}
use Rattle.model.proofs.Basics.Names.{name_small}
use Rattle.model.proofs.Formed.Keeping.{done_inj, shaped_words}
use Rattle.model.proofs.Basics.Items.{clash, items_leaf, items_tuple, items_bad, tuple_not_name, every_front, every_back}

-- the two ways that a value is read
pub reads_tuple : (w : ℕ) (ws : List ℕ) (n : ℕ) → is_tuple w ≡ true → reads (w ∷ ws) (suc n) ≡ vcons (tup (first_v (arity w) (reads ws (arity w + n)))) (behind_v (arity w) (reads ws (arity w + n)))
unfolding reads
reads_tuple w ws n e = rw (e, reads)

pub reads_name : (w : ℕ) (ws : List ℕ) (n : ℕ) → is_tuple w ≡ false → reads (w ∷ ws) (suc n) ≡ vcons (nm w) (reads ws n)
unfolding reads
reads_name w ws n e = rw (e, reads)

-- a property of the names of what is read
first_all : (P : ℕ → Type 0) (k : ℕ) (vs : Vals ℕ) → AllVs vs P → AllVs (first_v k vs) P
first_all P zero vs h = tt
first_all P (suc k) vnil h = tt
first_all P (suc k) (vcons v vs) h = (h.0, first_all P k vs h.1)

behind_all : (P : ℕ → Type 0) (k : ℕ) (vs : Vals ℕ) → AllVs vs P → AllVs (behind_v k vs) P
behind_all P zero vs h = h
behind_all P (suc k) vnil h = tt
behind_all P (suc k) (vcons v vs) h = behind_all P k vs h.1

pub reads_all : (P : ℕ → Type 0) (f : ℕ → Bool) → ((w : ℕ) → f w ≡ true → is_tuple w ≡ false → P w) → (ws : List ℕ) (n : ℕ) → every f ws ≡ true → AllVs (reads ws n) P
unfolding reads
reads_all P f h [] n e = tt
reads_all P f h (w ∷ ws) zero e = tt
reads_all P f h (w ∷ ws) (suc n) e = go (is_tuple w) refl (reads_all P f h ws (arity w + n) (snd _ _ e)) (reads_all P f h ws n (snd _ _ e))
  where
    go : (b : Bool) → is_tuple w ≡ b → AllVs (reads ws (arity w + n)) P → AllVs (reads ws n) P → AllVs (reads (w ∷ ws) (suc n)) P
    go true q i j = subst (λ (x : Vals ℕ). AllVs x P) (sym (reads_tuple w ws n q)) (first_all P (arity w) _ i, behind_all P (arity w) _ i)
    go false q i j = subst (λ (x : Vals ℕ). AllVs x P) (sym (reads_name w ws n q)) (h w (fst _ _ e) q, j)

head_all : (P : ℕ → Type 0) (vs : Vals ℕ) → P 0 → AllVs vs P → AllV (head_v vs) P
head_all P vnil z h = z
head_all P (vcons v vs) z h = h.0

pub val_all : (P : ℕ → Type 0) (f : ℕ → Bool) → ((w : ℕ) → f w ≡ true → is_tuple w ≡ false → P w) → P 0 → (ws : List ℕ) → every f ws ≡ true → AllV (val_of ws) P
unfolding val_of
val_all P f h z ws e = head_all P (reads ws 1) z (reads_all P f h ws 1 e)

-- the names of a well-formed value are held
pub wf_val_all : (P : ℕ → Type 0) (k : Counts) → ((w : ℕ) → held k w ≡ true → P w) → P 0 → (v : List ℕ) → wf_value k v ≡ true → AllV (val_of v) P
unfolding wf_value is_value held_word
wf_val_all P k h z v e = val_all P (λ w. held_word k w & (is_name w or is_tuple w)) ok z v
    (every_two (held_word k) (λ w. is_name w or is_tuple w) (λ w. held_word k w & (is_name w or is_tuple w)) (λ x p q. both _ _ p q) v (snd _ _ e) (shaped_words v (snd _ _ (fst _ _ e))))
  where
    ok : (w : ℕ) → held_word k w & (is_name w or is_tuple w) ≡ true → is_tuple w ≡ false → P w
    ok w p q = ⊎_elim (λ a. h w (⊎_elim (λ b. absurd (big w a (leb-true 4000000 w b))) (λ b. b) (alt _ _ (fst _ _ p)))) (λ a. absurd (false≢true (sym q ∙ a))) (alt _ _ (snd _ _ p))
      where
        big : (w : ℕ) → is_name w ≡ true → 4000000 ≤ w → ⊥
        big w p a = omega (arith, name_small w p)

-- WHAT IS WRITTEN IS READ BACK
abbrev pub app_v : Vals ℕ → Vals ℕ → Vals ℕ
app_v vnil us = us
app_v (vcons v vs) us = vcons v (app_v vs us)

first_app : (vs us : Vals ℕ) → first_v (vcount vs) (app_v vs us) ≡ vs
first_app vnil us = refl
first_app (vcons v vs) us = ap (vcons v) (first_app vs us)

behind_app : (vs us : Vals ℕ) → behind_v (vcount vs) (app_v vs us) ≡ us
behind_app vnil us = refl
behind_app (vcons v vs) us = behind_app vs us

abbrev pub worded : ℕ → Bool
worded w = is_name w or is_tuple w

tuple_word : (k : ℕ) → worded (4000000 + k) ≡ true → is_tuple (4000000 + k) ≡ true
tuple_word k e = ⊎_elim (λ a. let b = name_small (4000000 + k) a in absurd (omega arith)) (λ b. b) (alt _ _ e)

mutual
  pub read_back : (v : Val ℕ) (r : List ℕ) (n : ℕ) → every worded (vwords v) ≡ true → AllV v (λ x. is_tuple x ≡ false) → reads (vwords v ++ r) (suc n) ≡ vcons v (reads r n)
  read_back (nm x) r n e h = reads_name x r n h
  read_back (tup vs) r n e h =
      let t = tuple_word (vcount vs) (fst _ _ e) in
      let a : arity (4000000 + vcount vs) ≡ vcount vs = omega arith in
      reads_tuple (4000000 + vcount vs) (vswords vs ++ r) n t
      ∙ ap (λ (k : ℕ). vcons (tup (first_v k (reads (vswords vs ++ r) (k + n)))) (behind_v k (reads (vswords vs ++ r) (k + n)))) a
      ∙ ap (λ (us : Vals ℕ). vcons (tup (first_v (vcount vs) us)) (behind_v (vcount vs) us)) (read_backs vs r n (snd _ _ e) h)
      ∙ ap₂ (λ (us ws : Vals ℕ). vcons (tup us) ws) (first_app vs (reads r n)) (behind_app vs (reads r n))

  pub read_backs : (vs : Vals ℕ) (r : List ℕ) (n : ℕ) → every worded (vswords vs) ≡ true → AllVs vs (λ x. is_tuple x ≡ false) → reads (vswords vs ++ r) (vcount vs + n) ≡ app_v vs (reads r n)
  read_backs vnil r n e h = ap (reads r) (zero-add n)
  read_backs (vcons v vs) r n e h =
      ap₂ reads (append_assoc (vwords v) (vswords vs) r) (suc-add (vcount vs) n)
      ∙ read_back v (vswords vs ++ r) (vcount vs + n) (every_front worded (vwords v) (vswords vs) e) h.0
      ∙ ap (vcons v) (read_backs vs r n (every_back worded (vwords v) (vswords vs) e) h.1)

pub val_back : (v : Val ℕ) → every worded (vwords v) ≡ true → AllV v (λ x. is_tuple x ≡ false) → val_of (vwords v) ≡ v
unfolding val_of
val_back v e h = ap (λ (l : List ℕ). head_v (reads l 1)) (sym (append-nil (vwords v))) ∙ ap head_v (read_back v [] 0 e h)

-- WHAT IS READ IS WRITTEN BACK
pub split_words : (k : ℕ) (vs : Vals ℕ) → vswords (first_v k vs) ++ vswords (behind_v k vs) ≡ vswords vs
split_words zero vs = refl
split_words (suc k) vnil = refl
split_words (suc k) (vcons v vs) = append_assoc (vwords v) (vswords (first_v k vs)) (vswords (behind_v k vs)) ∙ ap (λ (l : List ℕ). vwords v ++ l) (split_words k vs)

pub count_first : (k : ℕ) (vs : Vals ℕ) → k ≤ vcount vs → vcount (first_v k vs) ≡ k
count_first zero vs h = refl
count_first (suc k) vnil h = absurd (omega arith)
count_first (suc k) (vcons v vs) h = ap suc (count_first k vs (omega arith))

count_behind : (k : ℕ) (vs : Vals ℕ) → vcount (behind_v k vs) ≡ vcount vs - k
count_behind zero vs = omega arith
count_behind (suc k) vnil = omega arith
count_behind (suc k) (vcons v vs) = count_behind k vs ∙ omega arith

abbrev Written : List ℕ → ℕ → Type 0
Written ws n = (vswords (reads ws n) ≡ ws) × (vcount (reads ws n) ≡ n)

pub write_back : (leaf : ℕ → Bool) (e : ℕ) → ((w : ℕ) → is_tuple w ≡ true → leaf w ≡ false) → (ws : List ℕ) (n : ℕ) → items leaf e ws n ≡ done [] → Written ws n
unfolding reads items
write_back leaf e lt [] zero h = (refl, refl)
write_back leaf e lt [] (suc n) h = absurd (clash h)
write_back leaf e lt (w ∷ ws) zero h = let z : suc (length ws) ≡ 0 = ap length (done_inj h) in absurd (omega arith)
write_back leaf e lt (w ∷ ws) (suc n) h = go (is_tuple w) refl (leaf w) refl (write_back leaf e lt ws (arity w + n)) (write_back leaf e lt ws n)
  where
    go : (t : Bool) → is_tuple w ≡ t → (l : Bool) → leaf w ≡ l → (items leaf e ws (arity w + n) ≡ done [] → Written ws (arity w + n)) → (items leaf e ws n ≡ done [] → Written ws n) → Written (w ∷ ws) (suc n)
    go true t l q f g =
        let r = f (sym (items_tuple leaf e w ws n (lt w t) t) ∙ h) in
        let vs = reads ws (arity w + n) in
        let c : vcount (first_v (arity w) vs) ≡ arity w = count_first (arity w) vs (omega (arith, r.1)) in
        let big = leb-true 4000000 w (fst _ _ t) in (
          ap vswords (reads_tuple w ws n t) ∙ ap₂ (λ (a : ℕ) (l : List ℕ). a ∷ l) (ap (λ (a : ℕ). 4000000 + a) c ∙ omega arith) (split_words (arity w) vs ∙ r.0),
          ap vcount (reads_tuple w ws n t) ∙ omega (arith, count_behind (arity w) vs, r.1),
        )
    go false t true q f g =
        let r = g (sym (items_leaf leaf e w ws n q) ∙ h) in
        (ap vswords (reads_name w ws n t) ∙ ap (λ (l : List ℕ). w ∷ l) r.0, ap vcount (reads_name w ws n t) ∙ ap suc r.1)
    go false t false q f g = absurd (clash (sym (items_bad leaf e w ws n q t) ∙ h))

pub val_written : (v : List ℕ) → items is_name 11 v 1 ≡ done [] → vwords (val_of v) ≡ v
unfolding val_of
val_written v h = let r = write_back is_name 11 tuple_not_name v 1 h in go (reads v 1) r.0 r.1
  where
    none : (us : Vals ℕ) → vcount us ≡ 0 → vswords us ≡ []
    none vnil e = refl
    none (vcons u us) e = absurd (omega arith)

    go : (vs : Vals ℕ) → vswords vs ≡ v → vcount vs ≡ 1 → vwords (head_v vs) ≡ v
    go vnil a b = absurd (omega arith)
    go (vcons u us) a b = sym (append-nil (vwords u)) ∙ ap (λ (l : List ℕ). vwords u ++ l) (sym (none us (omega arith))) ∙ a

-- the names of a value are its words that are no tuple words
mem_app : (x : ℕ) (l m : List ℕ) → mem x (l ++ m) ≡ mem x l || mem x m
mem_app x [] m = refl
mem_app x (y ∷ l) m = go (eqb x y) (mem_app x l m)
  where
    go : (b : Bool) → mem x (l ++ m) ≡ mem x l || mem x m → b || mem x (l ++ m) ≡ (b || mem x l) || mem x m
    go true e = refl
    go false e = e

mutual
  pub names_words : (x : ℕ) → x < 4000000 → (v : Val ℕ) → mem x (names v) ≡ mem x (vwords v)
  names_words x h (nm y) = refl
  names_words x h (tup vs) = sym (ap (λ (b : Bool). b || mem x (vswords vs)) (ne_eqb x (4000000 + vcount vs) (λ q. omega arith)) ∙ sym (namess_words x h vs))

  pub namess_words : (x : ℕ) → x < 4000000 → (vs : Vals ℕ) → mem x (namess vs) ≡ mem x (vswords vs)
  namess_words x h vnil = refl
  namess_words x h (vcons v vs) = mem_app x (names v) (namess vs) ∙ ap₂ (λ (a b : Bool). a || b) (names_words x h v) (namess_words x h vs) ∙ sym (mem_app x (vwords v) (vswords vs))
