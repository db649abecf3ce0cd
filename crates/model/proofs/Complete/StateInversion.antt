-- Demand 2, towards the second half: every transition of a state's process is a move of its items, up to a renaming that keeps the known names.
use mathlib.Core.Path.{◌≡◌, refl, sym, ap, ap₂, ◌∙◌, subst, fun_ext}
use mathlib.Core.Bool.{Bool, true, false, cond, ◌||◌}
use mathlib.Core.List.{List, [], ◌∷◌, ◌++◌, map}
use mathlib.Core.Option.{some}
use Prim.Native.Nat.{ℕ, zero, suc}
use native.Mathlib.Omega.{arith}
use borrow.Author.Tests.{eq-eqb}
use lib.Dec.{eqb}
use lib.ListN.{length, get_elem?, set}
use Rattle.calculus.specs.Syntax.{Proc, ren}
use Rattle.calculus.specs.Congruence.{◌≋◌, symm, trans}
use Rattle.calculus.specs.Transitions.{Label, tau, Participants, Fn⊆, restrict, lnames}
use Rattle.calculus.specs.Transitions.{Step as Trans}
use Rattle.calculus.specs.Parallel.{parallel}
use Rattle.calculus.specs.Tree.{Place, fill}
use Rattle.calculus.specs.Tree.{Item, select}
use Rattle.calculus.specs.Tree.{process}
use Rattle.model.specs.Basics.{every, has}
use Rattle.model.specs.Wrapper.{Wrapper, has_side}
use Rattle.model.specs.Side.{State, side, Message, down, arrived, leaving, Status as SPlace}
use Rattle.model.specs.Load.{Composition, wrapper_of, table}
use Rattle.model.specs.WellFormed.{counts, wf_particle, ready}
use Rattle.model.specs.Process.{Mark, numbered, by_side, is_gone, part_item, msg_proc, msg_item, shelf_item, shelf_items, side_items, enters, passes, takes, forwarders, conf_as, conf_of, new_of}
use Rattle.model.specs.Agreement.{Rename, plainly}
use Rattle.calculus.proofs.Renaming.{ren_ren, ren_id}
use Rattle.calculus.proofs.Extrusion.{cong_ren, in_news}
use Rattle.calculus.proofs.Marks.{remark_cong}
use Rattle.calculus.proofs.Equivariance.{lren}
use Rattle.calculus.proofs.Restriction.{RestrictInv, minus}
use Rattle.calculus.proofs.Trees.{same}
use Rattle.calculus.proofs.FreeNames.{eqb-true}
use Rattle.calculus.proofs.TreeMoves.{Atom, Move, term_moves}
use Rattle.calculus.proofs.Bags.{item, at, Bag, ritems}
use Rattle.model.proofs.Basics.Tests.{fst, snd, some_inj, or_right, no_some}
use Rattle.model.proofs.Formed.Invariant.{side_ok}
use Rattle.model.proofs.Processes.KnownNames.{known_all, All, held_in, low_in}
use Rattle.model.proofs.Processes.ItemFacts.{each_at, part_atom}
use Rattle.model.proofs.Processes.StateTree.{checked_of, items_each}
use Rattle.model.proofs.Sound.ItemMoves.{ids, forget}
use Rattle.model.proofs.Sound.StateMoves.{wf_all, good_all, same_bags}
use Rattle.model.proofs.Sound.MeetTargets.{process_is as process_of_lem}

-- ATOMS: all items are outputs and inputs
abbrev pub Atoms : {M : Type 0} → List (Item M) → Type 0
Atoms [] = Unit {0}
Atoms (i ∷ I) = Atom i.what × Atoms I

pub atoms_app : {M : Type 0} (X Y : List (Item M)) → Atoms X → Atoms Y → Atoms (X ++ Y)
atoms_app [] Y p q = q
atoms_app (i ∷ X) Y p q = (p.0, atoms_app X Y p.1 q)

atoms_numbered : {M A : Type 0} (f : A → Bool) (g : ℕ → A → Item M) → ((i : ℕ) (x : A) → f x ≡ true → Atom (g i x).what) → (n : ℕ) (l : List A) → every f l ≡ true → Atoms (numbered g n l)
atoms_numbered f g h n [] e = tt
atoms_numbered f g h n (x ∷ l) e = (h n x (fst _ _ e), atoms_numbered f g h (suc n) l (snd _ _ e))

pub atoms_at : {M : Type 0} (I : List (Item M)) → Atoms I → (k i : ℕ) (P : Proc M []) → get_elem? (select I k) i ≡ some P → Atom P
atoms_at [] h k i P e = absurd (no_some e)
atoms_at (x ∷ I) h k i P e = go (eqb k x.site) i e (atoms_at I h.1 k)
  where
    go : (c : Bool) (i : ℕ) → get_elem? (cond c (x.what ∷ select I k) (select I k)) i ≡ some P → ((i : ℕ) (P : Proc _ []) → get_elem? (select I k) i ≡ some P → Atom P) → Atom P
    go true zero e ih = subst Atom (some_inj e) h.0
    go true (suc i) e ih = ih i P e
    go false i e ih = ih i P e

module _ {M : Type 0} (mk : Mark → M) where
  msg_atom : (w : Wrapper) (side i : ℕ) (m : Message) → Atom (msg_item mk w side i m).what
  msg_atom w side i m = go m.status
    where
      go : (p : SPlace) → Atom (msg_proc mk w side i p m.chan m.val)
      go down = tt
      go arrived = tt
      go leaving = tt

  msgs_atoms : (w : Wrapper) (side n : ℕ) (l : List Message) → Atoms (numbered (msg_item mk w side) n l)
  msgs_atoms w side n [] = tt
  msgs_atoms w side n (m ∷ l) = (msg_atom w side n m, msgs_atoms w side (suc n) l)

  shelf_atoms : (gone : ℕ → Bool) (side i : ℕ) (l : List (List ℕ)) → Atoms (shelf_items mk gone side i l)
  shelf_atoms gone side i [] = tt
  shelf_atoms gone side i (v ∷ l) = atoms_app (cond (gone i) [] (shelf_item mk side i v ∷ [])) (shelf_items mk gone side (suc i) l) (go (gone i)) (shelf_atoms gone side (suc i) l)
    where
      go : (t : Bool) → Atoms (cond t [] (shelf_item mk side i v ∷ []))
      go true = tt
      go false = (tt, tt)

  atoms_map : {A : Type 0} (f : A → Item M) → ((x : A) → Atom (f x).what) → (l : List A) → Atoms (map f l)
  atoms_map f h [] = tt
  atoms_map f h (x ∷ l) = (h x, atoms_map f h l)

  forwarders_atoms : (w : Wrapper) → Atoms (forwarders mk w)
  forwarders_atoms w = atoms_app (map (enters mk w) w.sides) _ (atoms_map (enters mk w) (λ n. tt) w.sides)
      (atoms_app (map (passes mk w) w.sides) _ (atoms_map (passes mk w) (λ n. tt) w.sides) (atoms_map (takes mk) (λ r. tt) w.routes))

  atoms_by : (f : ℕ → List (Item M)) (ns : List ℕ) → ((n : ℕ) → has n ns ≡ true → Atoms (f n)) → Atoms (by_side f ns)
  atoms_by f [] h = tt
  atoms_by f (n ∷ ns) h = atoms_app (f n) (by_side f ns) (h n (ap (λ (t : Bool). t || has n ns) (eq-eqb n n refl))) (atoms_by f ns (λ m q. h m (or_right (eqb m n) (has m ns) q)))

  module _ (b : Composition) (s : State) (e : ready b s ≡ true) where
    parts_atoms : (n : ℕ) → has_side (wrapper_of b) n ≡ true → Atoms (numbered (part_item mk (table b n) n) 0 (side s n).core.contents.particles)
    parts_atoms n h = atoms_numbered (wf_particle (table b n) (counts s) (length (side s n).core.contents.boxes)) (part_item mk (table b n) n)
        (part_atom mk (All b s) (counts s) (held_in b s) (low_in b s 0 (omega arith)) (table b n) (checked_of b s e n h) (length (side s n).core.contents.boxes) n) 0
        (side s n).core.contents.particles (side_ok b s e n h).contents.particles

    pub items_atoms : Atoms (conf_as mk b s).items
    unfolding conf_as
    items_atoms = atoms_app (forwarders mk (wrapper_of b)) _ (forwarders_atoms (wrapper_of b))
        (atoms_app (by_side (λ n. shelf_items mk (is_gone s n) n 0 (side s n).core.shelf) (wrapper_of b).sides) _ (atoms_by _ (wrapper_of b).sides (λ n h. shelf_atoms (is_gone s n) n 0 (side s n).core.shelf))
        (atoms_by (λ n. side_items mk (wrapper_of b) n (table b n) (side s n).core) (wrapper_of b).sides
        (λ n h. atoms_app (numbered (msg_item mk (wrapper_of b) n) 0 (side s n).core.lobby) _ (msgs_atoms (wrapper_of b) n 0 (side s n).core.lobby) (parts_atoms n h))))

-- an element of what stands at a site is an item of the list
pub record ItemAt {M : Type 0} (I : List (Item M)) (k i : ℕ) (P : Proc M []) : Type 0 where
  pub X : List (Item M)
  pub Y : List (Item M)
  pub is : I ≡ X ++ item k P ∷ Y
  pub put : (Q : Proc M []) → set (select I k) i Q ≡ select (X ++ item k Q ∷ Y) k

pub item_at : {M : Type 0} (I : List (Item M)) (k i : ℕ) (P : Proc M []) → get_elem? (select I k) i ≡ some P → ItemAt I k i P
item_at [] k i P e = absurd (no_some e)
item_at {M} (x ∷ I) k i P e = go (eqb k x.site) refl i e (λ i e. item_at I k i P e)
  where
    skip : (c : Bool) → eqb k x.site ≡ c → (Z : List (Item M)) → select (x ∷ Z) k ≡ cond c (x.what ∷ select Z k) (select Z k)
    skip c q Z = ap (λ (t : Bool). cond t (x.what ∷ select Z k) (select Z k)) q

    go : (c : Bool) → eqb k x.site ≡ c → (i : ℕ) → get_elem? (cond c (x.what ∷ select I k) (select I k)) i ≡ some P → ((i : ℕ) → get_elem? (select I k) i ≡ some P → ItemAt I k i P) → ItemAt (x ∷ I) k i P
    go true q zero e ih = record {
      X = [];
      Y = I;
      is = ap₂ (λ (z : ℕ) (R : Proc M []). record { site = z; what = R } ∷ I) (sym (eqb-true q)) (some_inj e);
      put = λ Q. ap (λ (l : List (Proc M [])). set l zero Q) (skip true q I) ∙ sym (ap (λ (t : Bool). cond t (Q ∷ select I k) (select I k)) (same k));
    }
    go true q (suc i) e ih = let r = ih i e in record {
      X = x ∷ r.X;
      Y = r.Y;
      is = ap (λ (l : List (Item M)). x ∷ l) r.is;
      put = λ Q. ap (λ (l : List (Proc M [])). set l (suc i) Q) (skip true q I) ∙ ap (λ (l : List (Proc M [])). x.what ∷ l) (r.put Q) ∙ sym (skip true q (r.X ++ item k Q ∷ r.Y));
    }
    go false q i e ih = let r = ih i e in record {
      X = x ∷ r.X;
      Y = r.Y;
      is = ap (λ (l : List (Item M)). x ∷ l) r.is;
      put = λ Q. ap (λ (l : List (Proc M [])). set l i Q) (skip false q I) ∙ r.put Q ∙ sym (skip false q (r.X ++ item k Q ∷ r.Y));
    }

-- THE TARGET, renamed: what stands under the new names that are left
pub target_of : {M : Type 0} {N A : List ℕ} {P R : Proc M []} {l : Label} {w : Participants M} (v : RestrictInv N A P R l w) → ren {r = []} R v.perm.to ≋ restrict (minus N (lnames (lren l v.perm.to))) v.next
target_of {N = N} {R = R} {l = l} v =
    let Z = restrict (minus N (lnames (lren l v.perm.to))) v.next in
    symm (subst (λ (X : Proc _ []). X ≋ ren {r = []} R v.perm.to)
    (ren_ren {q = []} [] Z v.perm.back v.perm.to ∙ ap (λ (f : ℕ → ℕ). ren {r = []} Z f) (fun_ext v.perm.to_back) ∙ ren_id Z) (cong_ren {r = []} v.target v.perm.to))

abbrev pub rename_of : {M : Type 0} {N A : List ℕ} {P R : Proc M []} {l : Label} {w : Participants M} → RestrictInv N A P R l w → Rename A
rename_of v = record { to = v.perm.to; back = v.perm.back; to_back = v.perm.to_back; back_to = v.perm.back_to; keeps = v.keeps }

-- every transition of a state's process, as a move of its items
module _ (b : Composition) (s : State) (e : ready b s ≡ true) where
  abbrev sel : ℕ → List (Proc Mark [])
  sel k = select (conf_of b s).items k

  pub fn_sel : (k : ℕ) → Fn⊆ (parallel (sel k)) (All b s)
  fn_sel = each_at (All b s) (conf_of b s).items (items_each b s e ids)

  process_is : process (conf_of b s) ≡ restrict (new_of b s) (fill (conf_of b s).boxes (λ k. parallel (sel k)))
  unfolding process conf_as
  process_is = refl

  pub transitions : {l : Label} {w : Participants Mark} (R : Proc Mark []) → Trans (known_all s) (process (conf_of b s)) l w R
      → (v : RestrictInv (new_of b s) (known_all s) (fill (conf_of b s).boxes (λ k. parallel (sel k))) R l w) × Move (All b s) (conf_of b s).boxes sel (wf_all b s e)
      (atoms_at (conf_of b s).items (items_atoms ids b s e)) fn_sel v.next (lren l v.perm.to) w
  transitions {l} {w} R d = term_moves (new_of b s) (known_all s) (conf_of b s).boxes sel (wf_all b s e) (atoms_at (conf_of b s).items (items_atoms ids b s e)) fn_sel R (good_all b s e)
      (subst (λ (P : Proc Mark []). Trans (known_all s) P l w R) process_is d)

  -- a move that keeps the new names leads, renamed, to the state with its items
  pub kept_target : {l : Label} {w : Participants Mark} {R : Proc Mark []} (v : RestrictInv (new_of b s) (known_all s) (fill (conf_of b s).boxes (λ k. parallel (sel k))) R l w) → minus (new_of b s) (lnames (lren l v.perm.to)) ≡ new_of b s
      → (J : List (Item Mark)) → fill (conf_of b s).boxes (at J) ≋ v.next → (s' : State) → new_of b s' ≡ new_of b s → (conf_of b s').boxes ≡ (conf_of b s).boxes →
      Bag (ritems forget J) (ritems forget (conf_of b s').items) → plainly (ren {r = []} R v.perm.to) ≋ plainly (process (conf_of b s'))
  kept_target {l} {w} {R} v em J n s' en eb h =
      trans (remark_cong forget (target_of v)) (trans (remark_cong forget (subst (λ (N : List ℕ). restrict N v.next ≋ restrict (new_of b s) (fill (conf_of b s).boxes (at J))) (sym em) (in_news (new_of b s) (symm n))))
      (subst (λ (P : Proc Mark []). plainly (restrict (new_of b s) (fill (conf_of b s).boxes (at J))) ≋ plainly P)
      (ap₂ (λ (N : List ℕ) (B : List (Place Mark)). restrict N (fill B (at (conf_of b s').items))) (sym en) (sym eb) ∙ sym (process_of_lem b s'))
      (same_bags (new_of b s) (conf_of b s).boxes J (conf_of b s').items h)))

  minus_nil : (N : List ℕ) → minus N [] ≡ N
  minus_nil [] = refl
  minus_nil (x ∷ N) = ap (λ (r : List ℕ). x ∷ r) (minus_nil N)

  -- a silent one does
  pub silent_target : {w : Participants Mark} {R : Proc Mark []} (v : RestrictInv (new_of b s) (known_all s) (fill (conf_of b s).boxes (λ k. parallel (sel k))) R tau w) (J : List (Item Mark)) → fill (conf_of b s).boxes (at J) ≋ v.next
      → (s' : State) → new_of b s' ≡ new_of b s → (conf_of b s').boxes ≡ (conf_of b s).boxes → Bag (ritems forget J) (ritems forget (conf_of b s').items) → plainly (ren {r = []} R v.perm.to) ≋ plainly (process (conf_of b s'))
  silent_target v J n s' en eb h = kept_target v (minus_nil (new_of b s)) J n s' en eb h
