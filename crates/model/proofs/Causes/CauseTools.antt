-- Tools for the causes of refusals: results by what they are refused for, limits passed, places in lists.
use mathlib.Core.Path.{◌≡◌, refl, sym, ap, ◌∙◌, subst}
use mathlib.Core.Bool.{Bool, true, false, not, cond, false≢true}
use mathlib.Core.List.{List, [], ◌∷◌, ◌++◌}
use mathlib.Core.Logic.{◌⊎◌, inl, inr, ⊎_elim}
use mathlib.Core.Option.{some}
use Prim.Native.Nat.{ℕ, zero, suc, ◌+◌, ◌*◌, ◌≤◌, ◌<◌}
use native.Mathlib.Omega.{arith}
use borrow.Author.Tests.{leb-true, leb-false, eqb-true, eqb-false}
use lib.Dec.{eqb}
use lib.ListN.{length, get_elem?}
use Rattle.model.specs.Basics.{◌&◌, ◌or◌, Res, refuse, done, bind, need, choose, pick, every, has}
use Rattle.model.specs.Values.{is_tuple, is_public, arity, rest_of, first_of, binds, Fit, matches, extend, word, substitute, Env}
use Rattle.model.specs.Table.{Term, nil, par, box, new, out, inp}
use Rattle.model.specs.Wrapper.{filter, pipeline, logging, no_wrapper, described, has_side}
use Rattle.model.specs.Side.{Core, Particle, Box, limits, output, input}
use Rattle.model.specs.Unfolding.{tag_of, unfolds}
use Rattle.model.proofs.Basics.Tests.{fst, snd, or_cases, one_fails}
use Rattle.model.proofs.Formed.Keeping.{few_parts_of, few_lobby_of, few_shelf_of, roomy_of}

-- what is said of a result: C of a refusal's number, P of what is done
abbrev pub Caused : (C : ℕ → Type 0) → {A : Type 0} → (A → Type 0) → Res A → Type 0
Caused C P (refuse n) = C n
Caused C P (done a) = P a

module _ (C : ℕ → Type 0) {A : Type 0} (P : A → Type 0) where
  pub need_c : (t : Bool) (n : ℕ) (r : Res A) → (t ≡ false → C n) → (t ≡ true → Caused C P r) → Caused C P (need t n r)
  unfolding need
  need_c true n r f g = g refl
  need_c false n r f g = f refl

  pub pick_c : {D : Type 0} (l : List D) (i : ℕ) (f : D → Res A) → (length l ≤ i → C 10) → ((y : D) → get_elem? l i ≡ some y → Caused C P (f y)) → Caused C P (pick l i f)
  unfolding pick
  pick_c [] i f z g = z (omega arith)
  pick_c (y ∷ l) zero f z g = g y refl
  pick_c (y ∷ l) (suc i) f z g = pick_c l i f (λ q. z (omega (arith, q))) g

  pub bind_c : {D : Type 0} (r : Res D) (f : D → Res A) → ((n : ℕ) → r ≡ refuse n → C n) → ((d : D) → r ≡ done d → Caused C P (f d)) → Caused C P (bind r f)
  unfolding bind
  bind_c (refuse n) f g k = g n refl
  bind_c (done d) f g k = k d refl

  pub choose_c : (t : Bool) (a c : Res A) → (t ≡ true → Caused C P a) → (t ≡ false → Caused C P c) → Caused C P (choose t a c)
  unfolding choose
  choose_c true a c f g = f refl
  choose_c false a c f g = g refl

pub fail_left : (a b : Bool) → a ≡ false → a & b ≡ false
unfolding ◌&◌
fail_left a b e = rw e

pub fail_right : (a b : Bool) → b ≡ false → a & b ≡ false
unfolding ◌&◌
fail_right true b e = e
fail_right false b e = refl

pub neither : (a b : Bool) → a or b ≡ false → (a ≡ false) × (b ≡ false)
unfolding ◌or◌
neither true b e = absurd (false≢true (sym e))
neither false b e = (refl, e)

pub not_false' : (t : Bool) → not t ≡ false → t ≡ true
not_false' true e = refl
not_false' false e = absurd (false≢true (sym e))

pub not_true' : (t : Bool) → not t ≡ true → t ≡ false
not_true' true e = absurd (false≢true e)
not_true' false e = refl

pub either : (t : Bool) → (t ≡ true) ⊎ (t ≡ false)
either true = inl refl
either false = inr refl

pub no_words : (l : List ℕ) → eqb (length l) 0 ≡ true → l ≡ []
no_words [] e = refl
no_words (x ∷ l) e = let z = eqb-true (suc (length l)) 0 e in absurd (omega arith)

pub some_words : (l : List ℕ) → eqb (length l) 0 ≡ false → l ≡ [] → ⊥
some_words l e q = eqb-false (length l) 0 e (ap length q)

-- a test that fails somewhere
pub every_fails : {A : Type 0} (f : A → Bool) (l : List A) → every f l ≡ false → (k : ℕ) × (y : A) × (get_elem? l k ≡ some y) × (f y ≡ false)
every_fails f [] e = absurd (false≢true (sym e))
every_fails f (y ∷ l) e = ⊎_elim (λ p. (0, y, refl, p)) (λ p. let r = every_fails f l p in (suc r.0, r.1, r.2, r.3)) (one_fails _ _ e)

pub fails_every : {A : Type 0} (f : A → Bool) (l : List A) (k : ℕ) (y : A) → get_elem? l k ≡ some y → f y ≡ false → every f l ≡ false
fails_every f [] k y g e = absurd (let z : ◌≡◌ {A = ℕ} 0 1 = cc in omega arith)
fails_every f (x ∷ l) zero y g e = let q : x ≡ y = cc in fail_left _ _ (subst (λ (z : _). f z ≡ false) (sym q) e)
fails_every f (x ∷ l) (suc k) y g e = fail_right _ _ (fails_every f l k y g e)

pub every_split : {A : Type 0} (f : A → Bool) (l m : List A) → every f l ≡ true → every f (l ++ m) ≡ false → every f m ≡ false
every_split f [] m p q = q
every_split f (x ∷ l) m p q = ⊎_elim (λ z. absurd (false≢true (sym z ∙ fst _ _ p))) (λ z. every_split f l m (snd _ _ p) z) (one_fails _ _ q)

pub every_later : {A : Type 0} (f : A → Bool) (l m : List A) → every f m ≡ false → every f (l ++ m) ≡ false
every_later f [] m q = q
every_later f (x ∷ l) m q = fail_right _ _ (every_later f l m q)

-- LIMITS
pub limit_cases : (u : Core) {R : Type 0} → limits u ≡ false → (32 < length u.contents.particles → R) → (16 < length u.contents.boxes → R) → (256 < u.contents.minted → R) →
    (16 < length u.lobby → R) → (32 < length u.shelf → R) → R
unfolding limits
limit_cases u q a c d l s = ⊎_elim
    (λ h. ⊎_elim (λ h. a (leb-false _ _ h)) (λ h. ⊎_elim (λ h. c (leb-false _ _ h)) (λ h. d (leb-false _ _ h)) (one_fails _ _ h)) (one_fails _ _ h))
    (λ h. ⊎_elim (λ h. l (leb-false _ _ h)) (λ h. s (leb-false _ _ h)) (one_fails _ _ h))
    (one_fails _ _ q)

fails_by : (t : Bool) → (t ≡ true → ⊥) → t ≡ false
fails_by true h = absurd (h refl)
fails_by false h = refl

pub over_parts : (u : Core) → 32 < length u.contents.particles → limits u ≡ false
over_parts u l = fails_by (limits u) (λ q. omega (arith, few_parts_of u q))

pub over_boxes : (u : Core) → 16 < length u.contents.boxes → limits u ≡ false
over_boxes u l = fails_by (limits u) (λ q. omega (arith, leb-true (length u.contents.boxes) 16 (fst _ _ (snd _ _ (roomy_of u q)))))

pub over_minted : (u : Core) → 256 < u.contents.minted → limits u ≡ false
over_minted u l = fails_by (limits u) (λ q. omega (arith, leb-true u.contents.minted 256 (snd _ _ (snd _ _ (roomy_of u q)))))

pub over_lobby : (u : Core) → 16 < length u.lobby → limits u ≡ false
over_lobby u l = fails_by (limits u) (λ q. omega (arith, few_lobby_of u q))

pub over_shelf : (u : Core) → 32 < length u.shelf → limits u ≡ false
over_shelf u l = fails_by (limits u) (λ q. omega (arith, few_shelf_of u q))

-- the wrapper and the side of a step: 1 or 3 and 1, 2 and 1, 2 and 2
abbrev pub Places : (w n : ℕ) → Type 0
Places w n = (((w ≡ 1) ⊎ (w ≡ 3)) × (n ≡ 1)) ⊎ (((w ≡ 2) × (n ≡ 1)) ⊎ ((w ≡ 2) × (n ≡ 2)))

pub places : (w n : ℕ) → has_side (described w) n ≡ true → Places w n
places w n h = go (eqb w 1) (eqb w 2) (eqb w 3) refl refl refl h
  where
    first : has n (1 ∷ []) ≡ true → n ≡ 1
    first h = ⊎_elim (λ q. eqb-true n 1 q) (λ q. absurd (false≢true q)) (or_cases (eqb n 1) false h)

    go : (t u v : Bool) → eqb w 1 ≡ t → eqb w 2 ≡ u → eqb w 3 ≡ v → has n (cond t filter (cond u pipeline (cond v logging no_wrapper))).sides ≡ true → Places w n
    go true u v p q r h = inl (inl (eqb-true w 1 p), first h)
    go false true v p q r h = ⊎_elim (λ z. inr (inl (eqb-true w 2 q, eqb-true n 1 z)))
        (λ z. ⊎_elim (λ t. inr (inr (eqb-true w 2 q, eqb-true n 2 t))) (λ t. absurd (false≢true t)) (or_cases (eqb n 2) false z)) (or_cases (eqb n 1) (has n (2 ∷ [])) h)
    go false false true p q r h = inl (inr (eqb-true w 3 r), first h)
    go false false false p q r h = absurd (false≢true h)

-- under the filter and the logging wrapper nobody takes
pub alone_routes : (w : ℕ) → (w ≡ 1) ⊎ (w ≡ 3) → (described w).routes ≡ []
alone_routes w q = ⊎_elim (λ z. ap (λ (n : ℕ). (described n).routes) z) (λ z. ap (λ (n : ℕ). (described n).routes) z) q

-- how many copies leave
pub copy_count_lem : (w : ℕ) → length (described w).copies ≡ cond (eqb w 3) 1 0
copy_count_lem w = go (eqb w 1) (eqb w 2) (eqb w 3) refl refl refl
  where
    go : (t u v : Bool) → eqb w 1 ≡ t → eqb w 2 ≡ u → eqb w 3 ≡ v → length (cond t filter (cond u pipeline (cond v logging no_wrapper))).copies ≡ cond v 1 0
    go true u true p q r = let a = eqb-true w 1 p in let c = eqb-true w 3 r in absurd (omega arith)
    go true u false p q r = refl
    go false true true p q r = let a = eqb-true w 2 q in let c = eqb-true w 3 r in absurd (omega arith)
    go false true false p q r = refl
    go false false true p q r = refl
    go false false false p q r = refl

-- unfolding adds particles behind those that are there
pub unfolds_behind : (i : ℕ) (a : Term) (ρ : Env) (b : ℕ) (P Q : List Particle) (B : List Box) (m : ℕ)
    → unfolds i a ρ b (record { particles = P ++ Q; boxes = B; minted = m }) ≡ record {
      particles = P ++ (unfolds i a ρ b (record { particles = Q; boxes = B; minted = m })).particles;
      boxes = (unfolds i a ρ b (record { particles = Q; boxes = B; minted = m })).boxes;
      minted = (unfolds i a ρ b (record { particles = Q; boxes = B; minted = m })).minted;
    }
unfolding unfolds
unfolds_behind i (nil n) ρ b P Q B m = refl
unfolds_behind i (par n l r) ρ b P Q B m =
    ap (unfolds i r ρ b) (unfolds_behind i l ρ b P Q B m)
    ∙ unfolds_behind i r ρ b P (unfolds i l ρ b (record { particles = Q; boxes = B; minted = m })).particles (unfolds i l ρ b (record { particles = Q; boxes = B; minted = m })).boxes
    (unfolds i l ρ b (record { particles = Q; boxes = B; minted = m })).minted
unfolds_behind i (box n x a) ρ b P Q B m = unfolds_behind i a ρ (length B) P Q (B ++ (record { name = word ρ x; parent = b } ∷ [])) m
unfolds_behind i (new n x a) ρ b P Q B m = unfolds_behind i a (extend ρ (x ∷ []) (((65536 * i + m) ∷ []) ∷ [])) b P Q B (m + 1)
unfolds_behind i (out n c g v) ρ b P Q B m = ap (λ (l : List Particle). record { particles = l; boxes = B; minted = m }) (assoc P Q (output b (word ρ c) (tag_of ρ g) (substitute ρ v)))
  where
    assoc : (P Q : List Particle) (p : Particle) → (P ++ Q) ++ (p ∷ []) ≡ P ++ (Q ++ (p ∷ []))
    assoc [] Q p = refl
    assoc (y ∷ P) Q p = ap (λ (l : List Particle). y ∷ l) (assoc P Q p)
unfolds_behind i (inp n r c g p a) ρ b P Q B m = ap (λ (l : List Particle). record { particles = l; boxes = B; minted = m }) (assoc P Q (input b n ρ.vals))
  where
    assoc : (P Q : List Particle) (p : Particle) → (P ++ Q) ++ (p ∷ []) ≡ P ++ (Q ++ (p ∷ []))
    assoc [] Q p = refl
    assoc (y ∷ P) Q p = ap (λ (l : List Particle). y ∷ l) (assoc P Q p)

-- matching refuses with 14 alone
abbrev Fourteen : {A : Type 0} → Res A → Type 0
Fourteen r = Caused (λ n. n ≡ 14) (λ a. Unit {0}) r

match_14 : (p : List ℕ) (n : ℕ) (v : List ℕ) → Fourteen (matches p n v)
unfolding matches
match_14 [] zero v = tt
match_14 [] (suc n) v = refl
match_14 (p ∷ ps) zero v = tt
match_14 (p ∷ ps) (suc n) v = go (is_tuple p) v (is_public p) (match_14 ps)
  where
    word-14 : (c : Bool) (ws : List ℕ) → ((n : ℕ) (v : List ℕ) → Fourteen (matches ps n v)) → Fourteen {A = Fit} (elim c as (λ c. Res Fit) [ true ↦ matches ps (arity p + n) ws | false ↦ refuse 14 ])
    word-14 true ws ih = ih (arity p + n) ws
    word-14 false ws ih = refl

    go : (t : Bool) (v : List ℕ) (c : Bool) → ((n : ℕ) (v : List ℕ) → Fourteen (matches ps n v)) → Fourteen {A = Fit} (elim t as (λ t. Res Fit) [
      | true ↦ elim v as (λ v. Res Fit) [ [] ↦ refuse 14 | w ∷ ws ↦ elim (eqb w p) as (λ c. Res Fit) [ true ↦ matches ps (arity p + n) ws | false ↦ refuse 14 ] ]
      | false ↦ elim c as (λ c. Res Fit) [ true ↦ bind (matches ps n (rest_of v)) (λ m. done (binds (first_of v) m)) | false ↦ matches ps n (rest_of v) ]
    ])
    go true [] c ih = refl
    go true (w ∷ ws) c ih = word-14 (eqb w p) ws ih
    go false v true ih = bind_c (λ n. n ≡ 14) (λ a. Unit {0}) (matches ps n (rest_of v)) _ (λ n q. subst Fourteen q (ih _ (rest_of v))) (λ d q. tt)
    go false v false ih = ih n (rest_of v)

pub match_refuses : (p : List ℕ) (n : ℕ) (v : List ℕ) (e : ℕ) → matches p n v ≡ refuse e → e ≡ 14
match_refuses p n v e q = subst Fourteen q (match_14 p n v)
