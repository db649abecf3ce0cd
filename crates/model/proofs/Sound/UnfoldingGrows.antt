-- A body at a box, and the same body unfolded there: one process.
use mathlib.Core.Path.{◌≡◌, refl, sym, ap, subst, ◌∙◌}
use mathlib.Core.Bool.{Bool, true, false, not, cond}
use mathlib.Core.List.{List, [], ◌∷◌, map}
use mathlib.Core.Logic.{◌⊎◌, inl, inr, ⊎_elim}
use Prim.Native.Nat.{ℕ, suc, ◌+◌, ◌*◌, ◌<◌, ◌≤◌}
use native.Mathlib.Omega.{arith}
use borrow.Author.Tests.{ltb-true, ltb-false, lt-ltb, le-ltb, ne_eqb}
use lib.Dec.{ltb, eqb, T}
use Rattle.calculus.specs.Syntax.{Val, Proc, AllN, AllV}
use Rattle.calculus.specs.Syntax.{nil as pnil, par as ppar}
use Rattle.calculus.specs.Congruence.{◌≋◌, rfl, symm, trans, in_par, par_nil, par_comm}
use Rattle.calculus.specs.Transitions.{mem, In, restrict}
use Rattle.calculus.specs.Parallel.{parallel}
use Rattle.calculus.specs.Tree.{Place, upd, fill}
use Rattle.calculus.specs.Tree.{select, Conf}
use Rattle.calculus.proofs.Unfolding.{unfold'}
use Rattle.calculus.specs.Tree.{process}
use Rattle.calculus.specs.Named.{Code, proc}
use Rattle.calculus.proofs.Definedness.{Sound as CSound}
use Rattle.model.specs.Values.{is_minted}
use Rattle.model.specs.Side.{State, side as side_in}
use Rattle.model.specs.Basics.{has}
use Rattle.model.specs.Wrapper.{all_sides}
use Rattle.model.specs.Load.{Composition, wrapper_of}
use Rattle.model.specs.Step.{known}
use Rattle.model.specs.Process.{site_of, mint_of, upto, new_of, keep, minted_of, own_name}
use Rattle.calculus.proofs.Renaming.{AllN-map, AllV-map}
use Rattle.calculus.proofs.Trees.{Wf, Reach, fill_cong}
use Rattle.calculus.proofs.FreeNames.{or_cases, or_right, or_left, mem_cases}
use Rattle.calculus.proofs.Restriction.{known as all_of}
use Rattle.calculus.proofs.Extrusion.{in_news}
use Rattle.calculus.proofs.Bags.{item, at}
use Rattle.calculus.proofs.Unfolding.{unfold_ok, Ok, Beside, Old, BoxesOk, with'}
use Rattle.model.proofs.Processes.KnownNames.{known_all, outside_names, in_outside, KnownBy, is_low, is_brought, has_left, known_by, All, own_low, keep_out, upto_out, by_out}
use Rattle.model.proofs.Basics.Names.{minted_range, outside_range, minted_not_outside}
use Rattle.model.proofs.Formed.MeetingKeeps.{minted_number_lem}
use Rattle.model.proofs.Formed.Invariant.{positive}
use Rattle.model.proofs.Processes.ItemFacts.{Each, each_at}

-- the names minted next, and others past all names
pub mt : ℕ → ℕ → ℕ
mt side i = cond (ltb i 256) (mint_of side i) (1000000 + i)

pub mt_is : (side i : ℕ) → i < 256 → mt side i ≡ 65536 * side + i
unfolding mt
mt_is side i l = ap (λ (c : Bool). cond c (mint_of side i) (1000000 + i)) (lt-ltb i 256 l)

mt_high : (side i : ℕ) → 256 ≤ i → mt side i ≡ 1000000 + i
unfolding mt
mt_high side i l = ap (λ (c : Bool). cond c (mint_of side i) (1000000 + i)) (le-ltb i 256 l)

which : (i : ℕ) → (i < 256) ⊎ (256 ≤ i)
which i = go (ltb i 256) refl
  where
    go : (c : Bool) → ltb i 256 ≡ c → (i < 256) ⊎ (256 ≤ i)
    go true e = inl (ltb-true i 256 e)
    go false e = inr (ltb-false i 256 e)

pub mt_fresh : (side : ℕ) → side ≤ 2 → (i j : ℕ) → suc j ≤ i → eqb (mt side i) (mt side j) ≡ false
mt_fresh side s i j l = ne_eqb (mt side i) (mt side j) (λ q. ⊎_elim
    (λ a. ⊎_elim (λ b. omega (arith, mt_is side i a, mt_is side j b)) (λ b. omega (arith, a, b)) (which j))
    (λ a. ⊎_elim (λ b. omega (arith, mt_high side i a, mt_is side j b)) (λ b. omega (arith, mt_high side i a, mt_high side j b)) (which j)) (which i))

all_cases : (N A : List ℕ) (y : ℕ) → In (all_of N A) y → T (mem y N) ⊎ In A y
all_cases [] A y h = inr h
all_cases (x ∷ N) A y h = ⊎_elim (λ a. inl (or_right (eqb y x) (mem y N) a)) (λ a. ⊎_elim (λ c. inl (or_left (eqb y x) (mem y N) c)) (λ c. inr c) (or_cases (eqb y x) (mem y A) a)) (all_cases N (x ∷ A) y h)

module _ (b : Composition) (s : State) (few : (n : ℕ) → (side_in s n).core.contents.minted ≤ 256) where
  -- the names of a state's process: those minted; low ones, and those from outside, none of which is minted
  abbrev Unminted : ℕ → Type 0
  Unminted y = (y < 1000000) × (is_minted y ≡ true → ⊥)

  all_where : (y : ℕ) → In (All b s) y → Unminted y ⊎ T (mem y (minted_of s))
  unfolding new_of
  all_where y h = ⊎_elim
      (λ a. ⊎_elim (λ o. inl (omega (arith, (own_low b s y o).1), λ m. omega (arith, (own_low b s y o).1, (minted_range y m).0))) (λ k. inr (keep_out (λ x. not (known s x)) (minted_of s) y k).0)
      (mem_cases y (map own_name (wrapper_of b).sides) (keep (λ x. not (known s x)) (minted_of s)) a))
      (λ a. by-where (known_by outside_names s y a))
      (all_cases (new_of b s) (known_all s) y h)
    where
      by-where : KnownBy outside_names s y → ((y < 1000000) × (is_minted y ≡ true → ⊥)) ⊎ T (mem y (minted_of s))
      by-where (is_low k) = inl (omega (arith, k), λ m. omega (arith, k, (minted_range y m).0))
      by-where (is_brought k) = inl (omega (arith, (outside_range y (in_outside y k)).1), λ m. minted_not_outside y m (in_outside y k))
      by-where (has_left k e) = inr k

  pub not_next : (side m : ℕ) → has side all_sides ≡ true → m ≡ (side_in s side).core.contents.minted → (y : ℕ) → In (All b s) y → (i : ℕ) → m ≤ i → eqb (mt side i) y ≡ false
  not_next side m w v y h i l = ne_eqb (mt side i) y (λ q. ⊎_elim
      (λ a. ⊎_elim (λ c. a.1 (subst (λ (z : ℕ). is_minted z ≡ true) (sym (mt_is side i c) ∙ q) (minted_number_lem side i w c).0)) (λ c. let z = mt_high side i c in omega (arith, a.0, q, z)) (which i))
      (λ a. let r = by_out (λ n. upto (side_in s n).core.contents.minted (mint_of n)) all_sides y a in let f = upto_out (side_in s r.0).core.contents.minted (mint_of r.0) y r.2 in
      ⊎_elim (λ c. let z = mt_is side i c in let u : side ≡ r.0 = omega (arith, q, z, c, f.1, f.2, few r.0) in
      bad l v (subst (λ (k : ℕ). f.0 < (side_in s k).core.contents.minted) (sym u) f.1) (omega (arith, q, z, f.2, u)))
      (λ c. let z = mt_high side i c in omega (arith, q, f.1, f.2, few r.0, (positive r.0 r.1).1)) (which i))
      (all_where y h))
    where
      bad : {j : ℕ} → m ≤ i → m ≡ (side_in s side).core.contents.minted → j < (side_in s side).core.contents.minted → i ≡ j → ⊥
      bad p q r t = omega (arith, p, q, r, t)

-- a body at b, unfolded there
module _ (side : ℕ) (s2 : side ≤ 2) (Al : List ℕ) (m : ℕ) (next : (y : ℕ) → In Al y → (i : ℕ) → m ≤ i → eqb (mt side i) y ≡ false) (C : Conf (Unit {0})) (cm : C.serial ≡ m) (b : ℕ)
    (lt : b < C.sites) (wf : Wf Al C.boxes) (re : Reach C.boxes (site_of side b))
    (em : (k : ℕ) → C.sites ≤ k → select C.items (site_of side k) ≡ []) (ea : Each Al C.items) (c : Code) (ρ : ℕ → Val ℕ) (so : CSound [] c ρ) (en : (n : ℕ) → AllV (ρ n) (In Al)) where
  abbrev Other : ℕ → Type 0
  Other y = Unit {0}

  far : (i j : ℕ) → suc j ≤ i → eqb (site_of side i) (site_of side j) ≡ false
  far i j l = ne_eqb (site_of side i) (site_of side j) (λ q. omega arith)

  abbrev Old' : ℕ → ℕ → Type 0
  Old' = Old {M = Unit {0}} (mt side) (mt_fresh side s2) Other (λ i. tt) (site_of side) far tt

  old : (y : ℕ) → In Al y → Old' C.serial y
  old y h = (λ i l. next y h i (omega (arith, cm)), tt)

  bok : (bs : List (Place (Unit {0}))) → Wf Al bs → BoxesOk (mt side) (mt_fresh side s2) Other (λ i. tt) (site_of side) far tt C.serial C.sites bs
  bok [] h = tt
  bok (x ∷ bs) h = (old x.name h.1, h.0, bok bs h.4)

  is_ok : Ok (mt side) (mt_fresh side s2) Other (λ i. tt) (site_of side) far tt C
  is_ok = record { empty = em; old = λ k. AllN-map (at C.items k) old (each_at Al C.items ea k); bok = bok C.boxes wf }

  nothing : Beside (mt side) (mt_fresh side s2) Other (λ i. tt) (site_of side) far tt C (λ k. pnil)
  unfolding AllN
  nothing = record { none_there = λ k l. rfl; old_there = λ k. tt }

  abbrev U : Conf (Unit {0})
  U = unfold' (mt side) (site_of side) tt c ρ (site_of side b) C

  bare : (X : Conf (Unit {0})) → with' (mt side) (mt_fresh side s2) Other (λ i. tt) (site_of side) far tt X (λ k. pnil) ≋ process X
  unfolding with' process
  bare X = in_news X.names (fill_cong X.boxes (λ k. ppar (parallel (select X.items k)) pnil) (λ k. parallel (select X.items k)) (λ k. par_nil))

  body_there : (P : Proc (Unit {0}) []) (k : ℕ) → at (item (site_of side b) P ∷ C.items) k ≋ ppar (parallel (select C.items k)) (upd (λ k. pnil) (site_of side b) (ppar P pnil) k)
  body_there P k = go (eqb k (site_of side b))
    where
      go : (t : Bool) → parallel (cond t (P ∷ select C.items k) (select C.items k)) ≋ ppar (parallel (select C.items k)) (cond t (ppar P pnil) pnil)
      go true = trans par_comm (in_par rfl (symm par_nil))
      go false = symm par_nil

  pub body_unfolds : restrict C.names (fill C.boxes (at (item (site_of side b) (proc [] tt c ρ) ∷ C.items))) ≋ process U
  unfolding with'
  body_unfolds =
      let r = unfold_ok (mt side) (mt_fresh side s2) Other (λ i. tt) (site_of side) far tt c ρ (site_of side b) C so (λ n. AllV-map (ρ n) old (en n)) is_ok (λ j l. ne_eqb (site_of side j) (site_of side b) (λ q. omega arith)) re in
      trans (in_news C.names
      (fill_cong C.boxes (at (item (site_of side b) (proc [] tt c ρ) ∷ C.items)) (λ k. ppar (parallel (select C.items k)) (upd (λ k. pnil) (site_of side b) (ppar (proc [] tt c ρ) pnil) k)) (body_there (proc [] tt c ρ))))
      (trans (r.1 (λ k. pnil) nothing) (bare U))
