-- The boxes of a state as a tree rooted in the environment.
use mathlib.Core.Path.{◌≡◌, refl, sym, ap, ◌∙◌, subst}
use mathlib.Core.Bool.{Bool, true, false, cond, false≢true}
use mathlib.Core.List.{List, [], ◌∷◌, ◌++◌}
use mathlib.Core.Logic.{⊎_elim}
use mathlib.Core.Option.{some}
use Prim.Native.Nat.{ℕ, zero, suc, ◌+◌, ◌<◌, ◌≤◌}
use native.Mathlib.Omega.{arith}
use native.Mathlib.Decide.{ℕ_discrete}
use borrow.Author.Tests.{ltb-true, ne_eqb, eqb-false}
use lib.Dec.{ltb, eqb}
use lib.ListN.{length, get_elem?}
use Rattle.calculus.specs.Transitions.{In}
use Rattle.calculus.specs.Tree.{Place}
use Rattle.model.specs.Basics.{◌&◌, ◌or◌}
use Rattle.model.specs.Side.{Box}
use Rattle.model.specs.WellFormed.{Counts, held, wf_boxes}
use Rattle.model.specs.Process.{Mark, own_name, site_of, place_of, places_of}
use Rattle.calculus.proofs.Trees.{Wf, Reach, Has, here, there, Behind}
use Rattle.calculus.proofs.Moves.{Rooted}
use Rattle.calculus.proofs.Bags.{rplaces}
use Rattle.model.proofs.Basics.Tests.{fst, snd, alt}

module _ {M : Type 0} (mk : Mark → M) (A : List ℕ) (k : Counts) (held_in : (w : ℕ) → held k w ≡ true → In A w) where
  -- boxes so far, the next being box j of a side
  pub record Tree (side j : ℕ) (acc : List (Place M)) : Type 0 where
    pub wf : Wf A acc
    pub rooted : Rooted acc
    pub behind : (n : ℕ) → j ≤ n → Behind (site_of side n) acc
    pub reach : (p : ℕ) → p < j → Reach acc (site_of side p)
    pub root : Reach acc 0

  -- another side's site
  pub behind_other : (n : ℕ) (side : ℕ) → (eqb n 0 ≡ false) → ((j : ℕ) → eqb n (site_of side j) ≡ false) → (j : ℕ) (bs : List Box) (acc : List (Place M)) → Behind n acc → Behind n (places_of mk side j bs acc)
  behind_other n side z h j [] acc e = e
  behind_other n side z h j (b ∷ bs) acc e = behind_other n side z h (suc j) bs (place_of mk side j b ∷ acc) (h j, go (eqb j 0), e)
    where
      go : (t : Bool) → eqb n (cond t 0 (site_of side b.parent)) ≡ false
      go true = z
      go false = h b.parent

  pub reach_other : (n : ℕ) (side : ℕ) → ((j : ℕ) → eqb n (site_of side j) ≡ false) → (j : ℕ) (bs : List Box) (acc : List (Place M)) → Reach acc n → Reach (places_of mk side j bs acc) n
  reach_other n side h j [] acc e = e
  reach_other n side h j (b ∷ bs) acc e = reach_other n side h (suc j) bs (place_of mk side j b ∷ acc) (subst (λ (t : Bool). Reach acc (cond t (place_of mk side j b).parent n)) (sym (h j)) e)

  module _ (side : ℕ) (pos : 1 ≤ side) (own : In A (own_name side)) where
    site_ne : (i j : ℕ) → (i ≡ j → ⊥) → eqb (site_of side i) (site_of side j) ≡ false
    site_ne i j h = ne_eqb (site_of side i) (site_of side j) (λ q. h (omega arith))

    site_pos : (i : ℕ) → eqb 0 (site_of side i) ≡ false
    site_pos i = ne_eqb 0 (site_of side i) (λ q. omega arith)

    site_pos' : (i : ℕ) → eqb (site_of side i) 0 ≡ false
    site_pos' i = ne_eqb (site_of side i) 0 (λ q. omega arith)

    -- one box more
    grow : (j : ℕ) (b : Box) (acc : List (Place M)) → eqb j 0 or (ltb b.parent j & held k b.name) ≡ true → Tree side j acc → Tree side (suc j) (place_of mk side j b ∷ acc)
    grow j b acc e t = record {
      wf = (apart_parent (eqb j 0) refl, name_in (eqb j 0) refl, site_pos j, t.behind j (omega arith), t.wf);
      rooted = (parent_reach (eqb j 0) refl, t.rooted);
      behind = λ n l. (site_ne n j (λ q. omega arith), off_parent n l (eqb j 0) refl, t.behind n (omega arith));
      reach = λ p l. at p l (eqb (site_of side p) (site_of side j)) refl;
      root = subst (λ (x : Bool). Reach acc (cond x (place_of mk side j b).parent 0)) (sym (site_pos j)) t.root;
    }
      where
        later : eqb j 0 ≡ false → (b.parent < j) × (held k b.name ≡ true)
        later z = ⊎_elim (λ p. absurd (false≢true (sym z ∙ p))) (λ p. (ltb-true b.parent j (fst _ _ p), snd _ _ p)) (alt _ _ e)

        apart_parent : (x : Bool) → eqb j 0 ≡ x → eqb (site_of side j) (cond x 0 (site_of side b.parent)) ≡ false
        apart_parent true q = site_pos' j
        apart_parent false q = let l = later q in site_ne j b.parent (λ z. omega (arith, l.0))

        name_in : (x : Bool) → eqb j 0 ≡ x → In A (cond x (own_name side) b.name)
        name_in true q = own
        name_in false q = held_in b.name (later q).1

        parent_reach : (x : Bool) → eqb j 0 ≡ x → Reach acc (cond x 0 (site_of side b.parent))
        parent_reach true q = t.root
        parent_reach false q = t.reach b.parent (later q).0

        off_parent : (n : ℕ) → suc j ≤ n → (x : Bool) → eqb j 0 ≡ x → eqb (site_of side n) (cond x 0 (site_of side b.parent)) ≡ false
        off_parent n l true q = site_pos' n
        off_parent n l false q = let r = later q in site_ne n b.parent (λ z. omega (arith, r.0))

        at : (p : ℕ) → p < suc j → (x : Bool) → eqb (site_of side p) (site_of side j) ≡ x → Reach acc (cond x (place_of mk side j b).parent (site_of side p))
        at p l true q = parent_reach (eqb j 0) refl
        at p l false q = t.reach p (let z = eqb-false (site_of side p) (site_of side j) q in less (ℕ_discrete p j) z)
          where
            less : Dec (p ≡ j) → (site_of side p ≡ site_of side j → ⊥) → p < j
            less d z = elim d as (λ x. p < j) [ yes y ↦ absurd (z (ap (site_of side) y)) | no y ↦ omega (arith, y) ]

    pub grown : (j : ℕ) (bs : List Box) (acc : List (Place M)) → wf_boxes k j bs ≡ true → Tree side j acc → Tree side (j + length bs) (places_of mk side j bs acc)
    unfolding wf_boxes
    grown j [] acc e t = subst (λ (n : ℕ). Tree side n acc) (omega arith) t
    grown j (b ∷ bs) acc e t =
        let e' : wf_boxes k (suc j) bs ≡ true = subst (λ (n : ℕ). wf_boxes k n bs ≡ true) (omega arith) (snd _ _ e) in
        subst (λ (n : ℕ). Tree side n (places_of mk side (suc j) bs (place_of mk side j b ∷ acc))) (omega arith) (grown (suc j) bs (place_of mk side j b ∷ acc) e' (grow j b acc (fst _ _ e) t))

-- a box of the list is a place of the tree
module _ {M : Type 0} (mk : Mark → M) (side : ℕ) where
  pub has_acc : {c : Place M} (j : ℕ) (bs : List Box) (acc : List (Place M)) → Has c acc → Has c (places_of mk side j bs acc)
  has_acc j [] acc h = h
  has_acc j (b ∷ bs) acc h = has_acc (suc j) bs (place_of mk side j b ∷ acc) (there h)

  pub has_place : (j : ℕ) (bs : List Box) (acc : List (Place M)) (i : ℕ) (b : Box) → get_elem? bs i ≡ some b → Has (place_of mk side (j + i) b) (places_of mk side j bs acc)
  has_place j [] acc i b e = absurd (let z : ◌≡◌ {A = ℕ} 0 1 = cc in omega arith)
  has_place j (x ∷ bs) acc zero b e =
      let q : x ≡ b = cc in
      subst (λ (n : ℕ). Has (place_of mk side n b) (places_of mk side (suc j) bs (place_of mk side j x ∷ acc))) (omega arith)
      (has_acc (suc j) bs (place_of mk side j x ∷ acc) (subst (λ (y : Box). Has (place_of mk side j y) (place_of mk side j x ∷ acc)) q here))
  has_place j (x ∷ bs) acc (suc i) b e =
      subst (λ (n : ℕ). Has (place_of mk side n b) (places_of mk side (suc j) bs (place_of mk side j x ∷ acc))) (omega arith) (has_place (suc j) bs (place_of mk side j x ∷ acc) i b e)

  -- one box more at the end is one place more at the front
  pub places_app : (j : ℕ) (bs : List Box) (b : Box) (acc : List (Place M)) → places_of mk side j (bs ++ b ∷ []) acc ≡ place_of mk side (j + length bs) b ∷ places_of mk side j bs acc
  places_app j [] b acc = ap (λ (n : ℕ). place_of mk side n b ∷ acc) (omega arith)
  places_app j (x ∷ bs) b acc = places_app (suc j) bs b (place_of mk side j x ∷ acc) ∙ ap (λ (n : ℕ). place_of mk side n b ∷ places_of mk side (suc j) bs (place_of mk side j x ∷ acc)) (omega arith)

  pub places_split : (j : ℕ) (bs : List Box) (acc : List (Place M)) → places_of mk side j bs acc ≡ places_of mk side j bs [] ++ acc
  places_split j [] acc = refl
  places_split j (b ∷ bs) acc = places_split (suc j) bs (place_of mk side j b ∷ acc) ∙ sym (ap (λ (l : List (Place M)). l ++ acc) (places_split (suc j) bs (place_of mk side j b ∷ []))
      ∙ assoc (places_of mk side (suc j) bs []) (place_of mk side j b ∷ []) acc)
    where
      assoc : (a b c : List (Place M)) → (a ++ b) ++ c ≡ a ++ (b ++ c)
      assoc [] b c = refl
      assoc (x ∷ a) b c = ap (λ (l : List (Place M)). x ∷ l) (assoc a b c)

pub places_marks : {M U : Type 0} (mk : Mark → M) (h : M → U) (side j : ℕ) (bs : List Box) (acc : List (Place M)) → rplaces h (places_of mk side j bs acc) ≡ places_of (λ m. h (mk m)) side j bs (rplaces h acc)
places_marks mk h side j [] acc = refl
places_marks mk h side j (b ∷ bs) acc = places_marks mk h side (suc j) bs (place_of mk side j b ∷ acc)
