-- What well-formedness says of a state's process: its items are outputs and inputs with known or new names; its boxes are a tree.
use mathlib.Core.Path.{◌≡◌, refl, sym, ap, ◌∙◌, subst}
use mathlib.Core.Bool.{Bool, true, false, cond}
use mathlib.Core.List.{List, [], ◌∷◌, ◌++◌}
use Prim.Native.Nat.{ℕ, zero, suc, ◌<◌, ◌≤◌}
use native.Mathlib.Omega.{arith}
use borrow.Author.Tests.{leb-true, ltb-true, eqb-true, le-leb, lt-ltb}
use lib.Dec.{leb, ltb, eqb}
use lib.ListN.{length, get_or}
use Rattle.calculus.specs.Syntax.{Val, nm, AllV, AllT, AllN, IsName}
use Rattle.calculus.specs.Transitions.{In, Fn⊆, names, beyond}
use Rattle.calculus.specs.Parallel.{parallel}
use Rattle.calculus.specs.Tree.{Item, select}
use Rattle.calculus.specs.Named.{proc}
use Rattle.calculus.proofs.Definedness.{Sound as CSound}
use Rattle.model.specs.Basics.{done, every}
use Rattle.model.specs.Values.{items, is_tuple, is_name, is_public, is_pattern_leaf, binders, distinct, is_name_in, Env, value}
use Rattle.model.specs.Table.{Table, Term, inp, term, count, kind, scope, build}
use Rattle.model.specs.Side.{Particle, output, input, Message, down, arrived, leaving, Status as SPlace, Tag as STag, within, to_parent, from_parent, to_child, from_child}
use Rattle.model.specs.WellFormed.{Counts, held, wf_value, wf_tag, wf_particle, wf_message, env_at}
use Rattle.model.specs.Wrapper.{Wrapper}
use Rattle.model.specs.Process.{Mark, part, own_name, val_of, head_v, code_of, env_of, tag_out, numbered, part_item, msg_proc, msg_item, shelf_item, shelf_items}
use Rattle.calculus.proofs.Bags.{at}
use Rattle.calculus.proofs.Unfolding.{proc_all}
use Rattle.calculus.proofs.Parallels.{beyond_none, each-names}
use Rattle.calculus.proofs.TreeMoves.{Atom}
use Rattle.model.proofs.Basics.Tests.{fst, snd}
use Rattle.model.proofs.Basics.Items.{clash, shaped_items}
use Rattle.model.proofs.Basics.Environments.{value_ok}
use Rattle.model.proofs.Basics.Terms.{term_at_lem}
use Rattle.model.proofs.Basics.Checked.{Checked, Sits, s_inp, sits, is_tree}
use Rattle.model.proofs.Processes.ValueWords.{reads_name, wf_val_all}
use Rattle.model.proofs.Processes.HandlerTerms.{Names, fits_sound}

-- a value whose first word is small is a name
pub val_name : (v : List ℕ) → items is_name 11 v 1 ≡ done [] → ltb (get_or v 0 0) 4000000 ≡ true → val_of v ≡ nm (get_or v 0 0)
unfolding val_of items
val_name [] h e = absurd (clash h)
val_name (w ∷ ws) h e = ap head_v (reads_name w ws 0 (small w (ltb-true w 4000000 e)))
  where
    small : (w : ℕ) → w < 4000000 → is_tuple w ≡ false
    small w l = go (is_tuple w) refl
      where
        go : (b : Bool) → is_tuple w ≡ b → b ≡ false
        go true q = let a = leb-true 4000000 w (fst _ _ q) in absurd (omega arith)
        go false q = refl

-- the node of a waiting input
pub record InputAt (t : Table) (n : ℕ) : Type 0 where
  pub again : Bool
  pub chan : ℕ
  pub tag : ℕ
  pub pat : List ℕ
  pub body : Term
  pub is : term t n ≡ inp n again chan tag pat body
  pub chan_ok : is_public chan ≡ true
  pub tag_ok : leb tag 65 ≡ true
  pub pat_ok : items is_pattern_leaf 5 pat 1 ≡ done []
  pub differ : distinct (binders pat) ≡ true
  pub sits_body : Sits t (scope t n ++ binders pat) body

input_sits : {t : Table} {n m c g : ℕ} {r : Bool} {p : List ℕ} {a : Term} → term t n ≡ inp m r c g p a → m ≡ n → Sits t (scope t n) (inp m r c g p a) → InputAt t n
input_sits {c = c} {g = g} {r = r} {p = p} {a = a} e q (s_inp pc pg ip pd ln kn tm sc sb) = record { again = r; chan = c; tag = g; pat = p; body = a; is = rw q at e; chan_ok = pc; tag_ok = pg; pat_ok = ip; differ = pd; sits_body = sb }

pub input_at : (t : Table) → Checked t → (n : ℕ) → n < count t → leb 5 (kind t n) ≡ true → InputAt t n
unfolding build
input_at t c n l k = go (kind t n) (leb-true 5 (kind t n) k) (term_at_lem t (is_tree t c) n l) (sits t c n l)
  where
    go : (κ : ℕ) → 5 ≤ κ → term t n ≡ build κ t n (term t) → Sits t (scope t n) (term t n) → InputAt t n
    go zero h e s = absurd (omega arith)
    go (suc zero) h e s = absurd (omega arith)
    go (suc (suc zero)) h e s = absurd (omega arith)
    go (suc (suc (suc zero))) h e s = absurd (omega arith)
    go (suc (suc (suc (suc zero)))) h e s = absurd (omega arith)
    go (suc (suc (suc (suc (suc κ))))) h e s = input_sits e refl (subst (λ (x : Term). Sits t (scope t n) x) e s)

module _ {M : Type 0} (A : List ℕ) where
  -- items with known names only
  abbrev pub Each : List (Item M) → Type 0
  Each [] = Unit {0}
  Each (i ∷ I) = Fn⊆ i.what A × Each I

  pub each_app : (X Y : List (Item M)) → Each X → Each Y → Each (X ++ Y)
  each_app [] Y h g = g
  each_app (i ∷ X) Y h g = (h.0, each_app X Y h.1 g)

  pub each_at : (I : List (Item M)) → Each I → (k : ℕ) → Fn⊆ (at I k) A
  unfolding AllN
  each_at [] h k = tt
  each_at (i ∷ I) h k = go (eqb k i.site) (each_at I h.1 k)
    where
      go : (c : Bool) → Fn⊆ (at I k) A → Fn⊆ (parallel (cond c (i.what ∷ select I k) (select I k))) A
      go true r = (h.0, r)
      go false r = r

  pub each_numbered : {X : Type 0} (f : X → Bool) (g : ℕ → X → Item M) → ((i : ℕ) (x : X) → f x ≡ true → Fn⊆ (g i x).what A) → (n : ℕ) (l : List X) → every f l ≡ true → Each (numbered g n l)
  each_numbered f g h n [] e = tt
  each_numbered f g h n (x ∷ l) e = (h n x (fst _ _ e), each_numbered f g h (suc n) l (snd _ _ e))

pub out_beyond : (A : List ℕ) (x : ℕ) (v : Val ℕ) → In A x → AllV v (In A) → beyond A (x ∷ names v) ≡ []
out_beyond A x v h g = beyond_none A (x ∷ names v) (h, each-names (In A) v g)

module _ {M : Type 0} (mk : Mark → M) (A : List ℕ) (k : Counts) (held_in : (w : ℕ) → held k w ≡ true → In A w) (zero_in : In A 0) where
  pub val_in_lem : (v : List ℕ) → wf_value k v ≡ true → AllV (val_of v) (In A)
  val_in_lem v e = wf_val_all (In A) k held_in zero_in v e

  pub tag_in : (g : STag) → wf_tag k g ≡ true → AllT (tag_out g) (In A)
  unfolding wf_tag
  tag_in within e = tt
  tag_in to_parent e = tt
  tag_in from_parent e = tt
  tag_in (to_child n) e = held_in n e
  tag_in (from_child n) e = held_in n e

  -- an environment of well-formed values
  pub env_in_lem : (ρ : Env) → every (wf_value k) ρ.vals ≡ true → (n : ℕ) → AllV (env_of ρ n) (In A)
  unfolding env_of
  env_in_lem ρ h n = go (ltb n 64) refl
    where
      go : (b : Bool) → ltb n 64 ≡ b → AllV (cond b (val_of (value ρ n)) (nm 0)) (In A)
      go true e = let l = ltb-true n 64 e in val_in_lem (value ρ n) (value_ok k ρ h n (le-leb n 63 (omega arith)))
      go false e = zero_in

  pub env_name : (ρ : Env) → every (wf_value k) ρ.vals ≡ true → (x : ℕ) → is_public x ≡ true → is_name_in ρ x ≡ true → env_of ρ x ≡ nm (get_or (value ρ x) 0 0)
  unfolding env_of wf_value Rattle.model.specs.Values.is_value
  env_name ρ h x p e =
      let l = leb-true x 63 p in
      ap (λ (b : Bool). cond b (val_of (value ρ x)) (nm 0)) (lt-ltb x 64 (omega arith)) ∙ val_name (value ρ x) (shaped_items (value ρ x) (snd _ _ (fst _ _ (value_ok k ρ h x p)))) e

  pub env_names : (ρ : Env) → every (wf_value k) ρ.vals ≡ true → Names ρ [] (env_of ρ)
  env_names ρ h x p e = subst IsName (sym (env_name ρ h x p e)) tt

  module _ (t : Table) (c : Checked t) (nb : ℕ) (side : ℕ) where
    pub input_sound : (b n : ℕ) (vs : List (List ℕ)) → wf_particle t k nb (input b n vs) ≡ true → CSound [] (code_of (term t n)) (env_of (env_at t n vs))
    unfolding wf_particle
    input_sound b n vs e =
        let e1 = snd _ _ e in let e2 = snd _ _ e1 in let e3 = snd _ _ e2 in let e4 = snd _ _ e3 in
        fits_sound (sits t c n (ltb-true n (count t) (fst _ _ e1))) [] (env_at t n vs) (env_of (env_at t n vs)) (eqb-true (length vs) (length (scope t n)) (fst _ _ e3)) (env_names (env_at t n vs) (fst _ _ e4)) (snd _ _ e4)

    pub input_vals : (b n : ℕ) (vs : List (List ℕ)) → wf_particle t k nb (input b n vs) ≡ true → every (wf_value k) vs ≡ true
    unfolding wf_particle
    input_vals b n vs e = fst _ _ (snd _ _ (snd _ _ (snd _ _ (snd _ _ e))))

    pub input_node_lem : (b n : ℕ) (vs : List (List ℕ)) → wf_particle t k nb (input b n vs) ≡ true → InputAt t n
    unfolding wf_particle
    input_node_lem b n vs e = input_at t c n (ltb-true n (count t) (fst _ _ (snd _ _ e))) (fst _ _ (snd _ _ (snd _ _ e)))

    pub part_in : (i : ℕ) (p : Particle) → wf_particle t k nb p ≡ true → Fn⊆ (part_item mk t side i p).what A
    unfolding AllN wf_particle
    part_in i (output b ch g v) e = (held_in ch (fst _ _ (snd _ _ e)), tag_in g (fst _ _ (snd _ _ (snd _ _ e))), val_in_lem v (snd _ _ (snd _ _ (snd _ _ e))))
    part_in i (input b n vs) e = proc_all [] (mk (part side i)) (code_of (term t n)) (env_of (env_at t n vs)) (In A) (input_sound b n vs e) (env_in_lem (env_at t n vs) (input_vals b n vs e))

    pub part_atom : (i : ℕ) (p : Particle) → wf_particle t k nb p ≡ true → Atom (part_item mk t side i p).what
    unfolding proc code_of
    part_atom i (output b ch g v) e = tt
    part_atom i (input b n vs) e = subst (λ (a : Term). Atom (proc [] (mk (part side i)) (code_of a) (env_of (env_at t n vs)))) (sym (input_node_lem b n vs e).is) tt

  pub msg_in : (wrapper : Wrapper) (side : ℕ) (sh : Bool) (cs : List ℕ) → In A (own_name side) → In A (wrapper.outlet side) → (i : ℕ) (m : Message) → wf_message sh cs k m ≡ true → Fn⊆ (msg_item mk wrapper side i m).what A
  unfolding AllN wf_message
  msg_in wrapper side sh cs own ow i m e = go m.status
    where
      go : (p : SPlace) → Fn⊆ (msg_proc mk wrapper side i p m.chan m.val) A
      go down = (held_in m.chan (fst _ _ (snd _ _ e)), own, val_in_lem m.val (fst _ _ e))
      go arrived = (held_in m.chan (fst _ _ (snd _ _ e)), own, val_in_lem m.val (fst _ _ e))
      go leaving = (left (eqb m.chan 1), tt, val_in_lem m.val (fst _ _ e))
        where
          left : (t : Bool) → In A (cond t (wrapper.outlet side) m.chan)
          left true = ow
          left false = held_in m.chan (fst _ _ (snd _ _ e))

  pub shelf_in : (side : ℕ) → In A 2 → In A (own_name side) → (gone : ℕ → Bool) (i : ℕ) (l : List (List ℕ)) → every (wf_value k) l ≡ true → Each A (shelf_items mk gone side i l)
  unfolding AllN
  shelf_in side joint own gone i [] e = tt
  shelf_in side joint own gone i (v ∷ l) e = each_app A (cond (gone i) [] (shelf_item mk side i v ∷ [])) (shelf_items mk gone side (suc i) l) (go (gone i)) (shelf_in side joint own gone (suc i) l (snd _ _ e))
    where
      go : (b : Bool) → Each A (cond b [] (shelf_item mk side i v ∷ []))
      go true = tt
      go false = ((joint, own, val_in_lem v (fst _ _ e)), tt)
