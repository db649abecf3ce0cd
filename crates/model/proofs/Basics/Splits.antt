-- Lists of things with their positions, taken apart where a step takes place.
use mathlib.Core.Path.{◌≡◌, refl, sym, ap, ap₂, ◌∙◌}
use mathlib.Core.List.{List, [], ◌∷◌, ◌++◌, map}
use mathlib.Core.Option.{some}
use Prim.Native.Nat.{ℕ, zero, suc, ◌+◌, ◌<◌}
use native.Mathlib.Omega.{arith}
use lib.ListN.{length, set, get_elem?}
use Rattle.calculus.specs.Tree.{Item}
use Rattle.calculus.proofs.Bags.{ritem, ritems}
use Rattle.model.specs.Basics.{Res, done, pick, remove}
use Rattle.model.specs.Process.{numbered}
use Rattle.model.proofs.Basics.Items.{clash}
use Rattle.model.proofs.Basics.Tests.{no_some, some_inj}

module _ {A B : Type 0} where
  pub pick_get : (l : List A) (i : ℕ) (f : A → Res B) (b : B) → pick l i f ≡ done b → (x : A) × (get_elem? l i ≡ some x) × (f x ≡ done b)
  unfolding pick
  pick_get [] i f b e = absurd (clash e)
  pick_get (x ∷ l) zero f b e = (x, refl, e)
  pick_get (x ∷ l) (suc i) f b e = pick_get l i f b e

  pub get_pick : (l : List A) (i : ℕ) (f : A → Res B) (x : A) → get_elem? l i ≡ some x → pick l i f ≡ f x
  unfolding pick
  get_pick [] i f x e = absurd (no_some e)
  get_pick (y ∷ l) zero f x e = ap f (some_inj e)
  get_pick (y ∷ l) (suc i) f x e = get_pick l i f x e

pub get_length : {A : Type 0} (l : List A) (i : ℕ) (x : A) → get_elem? l i ≡ some x → i < length l
get_length [] i x e = absurd (no_some e)
get_length (y ∷ l) zero x e = omega arith
get_length (y ∷ l) (suc i) x e = omega (arith, get_length l i x e)

module _ {X M U : Type 0} (h : M → U) (g : ℕ → X → Item M) (f : X → Item U) (eq : (i : ℕ) (x : X) → ritem h (g i x) ≡ f x) where
  pub numbered_map : (n : ℕ) (l : List X) → ritems h (numbered g n l) ≡ map f l
  numbered_map n [] = refl
  numbered_map n (x ∷ l) = ap₂ (λ (a : Item U) (r : List (Item U)). a ∷ r) (eq n x) (numbered_map (suc n) l)

  pub record Split (n : ℕ) (l : List X) (i : ℕ) (x : X) : Type 0 where
    pub pre : List (Item M)
    pub post : List (Item M)
    pub is : numbered g n l ≡ pre ++ g (n + i) x ∷ post
    pub gone : ritems h pre ++ ritems h post ≡ map f (remove l i)
    pub put : (y : X) → ritems h pre ++ f y ∷ ritems h post ≡ map f (set l i y)

  pub split_at : (n : ℕ) (l : List X) (i : ℕ) (x : X) → get_elem? l i ≡ some x → Split n l i x
  split_at n [] i x e = absurd (no_some e)
  split_at n (y ∷ l) zero x e = record {
    pre = [];
    post = numbered g (suc n) l;
    is = ap₂ (λ (a : ℕ) (z : X). g a z ∷ numbered g (suc n) l) (omega arith) (some_inj e);
    gone = numbered_map (suc n) l;
    put = λ z. ap (λ (r : List (Item U)). f z ∷ r) (numbered_map (suc n) l);
  }
  split_at n (y ∷ l) (suc i) x e = let r = split_at (suc n) l i x e in record {
    pre = g n y ∷ r.pre;
    post = r.post;
    is = ap (λ (q : List (Item M)). g n y ∷ q) (r.is ∙ ap (λ (a : ℕ). r.pre ++ g a x ∷ r.post) (omega arith));
    gone = ap₂ (λ (a : Item U) (q : List (Item U)). a ∷ q) (eq n y) r.gone;
    put = λ z. ap₂ (λ (a : Item U) (q : List (Item U)). a ∷ q) (eq n y) (r.put z);
  }

  -- two places, i before j
  pub record Split2 (n : ℕ) (l : List X) (i : ℕ) (x : X) (j : ℕ) (y : X) : Type 0 where
    pub pre : List (Item M)
    pub mid : List (Item M)
    pub post : List (Item M)
    pub is : numbered g n l ≡ pre ++ g (n + i) x ∷ (mid ++ g (n + j) y ∷ post)
    pub gone : ritems h pre ++ (ritems h mid ++ ritems h post) ≡ map f (remove (remove l j) i)
    pub first_gone : ritems h pre ++ (ritems h mid ++ f y ∷ ritems h post) ≡ map f (remove l i)
    pub second_gone : ritems h pre ++ f x ∷ (ritems h mid ++ ritems h post) ≡ map f (remove l j)

  pub split_two : (n : ℕ) (l : List X) (i : ℕ) (x : X) (j : ℕ) (y : X) → i < j → get_elem? l i ≡ some x → get_elem? l j ≡ some y → Split2 n l i x j y
  split_two n [] i x j y lt e e' = absurd (no_some e)
  split_two n (z ∷ l) i x zero y lt e e' = absurd (omega arith)
  split_two n (z ∷ l) zero x (suc j) y lt e e' = let r = split_at (suc n) l j y e' in record {
    pre = [];
    mid = r.pre;
    post = r.post;
    is = ap₂ (λ (a : Item M) (q : List (Item M)). a ∷ q) (ap₂ g (omega arith) (some_inj e)) (r.is ∙ ap (λ (a : ℕ). r.pre ++ g a y ∷ r.post) (omega arith));
    gone = r.gone;
    first_gone = first_of l j y e' r;
    second_gone = ap₂ (λ (a : Item U) (q : List (Item U)). a ∷ q) (ap f (sym (some_inj e))) r.gone;
  }
    where
      set_same : (l : List X) (j : ℕ) (y : X) → get_elem? l j ≡ some y → set l j y ≡ l
      set_same [] j y e = refl
      set_same (w ∷ l) zero y e = ap (λ (a : X). a ∷ l) (sym (some_inj e))
      set_same (w ∷ l) (suc j) y e = ap (λ (q : List X). w ∷ q) (set_same l j y e)

      first_of : (l : List X) (j : ℕ) (y : X) → get_elem? l j ≡ some y → (r : Split (suc n) l j y) → ritems h r.pre ++ f y ∷ ritems h r.post ≡ map f l
      first_of l j y e r = r.put y ∙ ap (map f) (set_same l j y e)
  split_two n (z ∷ l) (suc i) x (suc j) y lt e e' = let r = split_two (suc n) l i x j y (omega arith) e e' in record {
    pre = g n z ∷ r.pre;
    mid = r.mid;
    post = r.post;
    is = ap (λ (q : List (Item M)). g n z ∷ q) (r.is ∙ ap₂ (λ (a c : ℕ). r.pre ++ g a x ∷ (r.mid ++ g c y ∷ r.post)) (omega arith) (omega arith));
    gone = ap₂ (λ (a : Item U) (q : List (Item U)). a ∷ q) (eq n z) r.gone;
    first_gone = ap₂ (λ (a : Item U) (q : List (Item U)). a ∷ q) (eq n z) r.first_gone;
    second_gone = ap₂ (λ (a : Item U) (q : List (Item U)). a ∷ q) (eq n z) r.second_gone;
  }

pub map_add : {A B : Type 0} (f : A → B) (l : List A) (x : A) → map f (l ++ x ∷ []) ≡ map f l ++ f x ∷ []
map_add f [] x = refl
map_add f (y ∷ l) x = ap (λ (q : List _). f y ∷ q) (map_add f l x)

pub map_app : {A B : Type 0} (f : A → B) (l m : List A) → map f (l ++ m) ≡ map f l ++ map f m
map_app f [] m = refl
map_app f (y ∷ l) m = ap (λ (q : List _). f y ∷ q) (map_app f l m)
