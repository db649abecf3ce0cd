-- What an answer says, taken apart; the value of a label by its words; the place of a step by its fields.
use mathlib.Core.Path.{◌≡◌, refl, sym, ap, ap₂, ◌∙◌, subst}
use mathlib.Core.Bool.{Bool, true, false, not, cond, false≢true, ◌&&◌, ◌||◌}
use mathlib.Core.List.{List, [], ◌∷◌, ◌++◌}
use mathlib.Core.Logic.{⊎_elim}
use Prim.Native.Nat.{ℕ, suc, ◌<◌}
use native.Mathlib.Omega.{arith}
use borrow.Author.Tests.{leb-true, leb-false, lt-ltb, le-ltb, eqb-true, not-false}
use lib.Dec.{leb, ltb, eqb, T}
use mathlib.Core.Option.{some}
use lib.ListN.{length, get_elem?}
use Rattle.calculus.specs.Syntax.{Val, Vals, nm, tup, vnil, vcons, AllV, AllVs, plain}
use Rattle.calculus.specs.Syntax.{parent as iparent}
use Rattle.calculus.specs.Transitions.{Label, tau, send, recv, lone, joint, names, namess}
use Rattle.model.specs.Basics.{◌&◌, ◌or◌, every, has}
use Rattle.model.specs.Values.{is_tuple, is_public, is_minted, is_outside, is_name}
use Rattle.model.specs.Step.{Step, silent, enters, leaves, logs, leaving_on, Answer, labelled, refusal}
use Rattle.model.specs.Wrapper.{Wrapper, Route}
use Rattle.model.specs.Process.{Mark, part, boxed, lobby, shelf, enterer, passer, taker, leaves_as, vwords, val_of}
use Rattle.model.specs.Agreement.{foreign, some_name, minted_number, outside_number, enterable, At, Says, says_tau, says_in, says_out, says_log, enter, go_down, go_up, descend, meet, pass, leave, take}
use Rattle.calculus.proofs.Renaming.{AllV-map}
use Rattle.model.proofs.Basics.Tests.{fst, alt, has_every, or_none}
use Rattle.model.proofs.Basics.Names.{name_small}
use Rattle.model.proofs.Formed.Keeping.{is_log}
use Rattle.model.proofs.Processes.ValueWords.{worded, val_back}

abbrev pub SaysInv : Wrapper → Answer → Label → Type 0
SaysInv w (labelled silent n v) l = l ≡ tau
SaysInv w (labelled enters n v) l = (u : Val ℕ) × (v ≡ vwords u) × T (not (foreign u)) × (l ≡ recv (w.inlet n) (plain iparent) u)
SaysInv w (labelled leaves n v) l = (u : Val ℕ) × (v ≡ vwords u) × T (not (foreign u)) × (l ≡ send (w.outlet n) (plain iparent) u)
SaysInv w (labelled logs n v) l = (u : Val ℕ) × (v ≡ vwords u) × T (not (foreign u)) × ((x : ℕ) × (has x w.copies ≡ true) × (l ≡ send x (plain iparent) u))
SaysInv w (refusal k n) l = ⊥

pub says_inv : {w : Wrapper} {a : Answer} {l : Label} → Says w a l → SaysInv w a l
says_inv says_tau = refl
says_inv (says_in {v = v} e h) = (v, e, h, refl)
says_inv (says_out {v = v} e h) = (v, e, h, refl)
says_inv (says_log {c = c} {v = v} q e h) = (v, e, h, (c, q, refl))

-- what is said of a message that leaves on a channel: an output on the environment's name of the channel
module _ (w : Wrapper) (cl : every is_log w.copies ≡ true) (n c : ℕ) (ok : eqb c 1 or has c w.copies ≡ true) where
  copy_log : (x : ℕ) → has x w.copies ≡ true → x ≡ 3
  copy_log x q = eqb-true x 3 (has_every is_log w.copies x cl q)

  pub left_inv : (v : List ℕ) (l : Label) → SaysInv w (labelled (leaving_on c) n v) l → (u : Val ℕ) × (v ≡ vwords u) × T (not (foreign u)) × (l ≡ send (leaves_as w n c) (plain iparent) u)
  left_inv v l h = go (eqb c 1) refl h
    where
      go : (t : Bool) → eqb c 1 ≡ t → SaysInv w (labelled (cond t leaves logs) n v) l → (u : Val ℕ) × (v ≡ vwords u) × T (not (foreign u)) × (l ≡ send (cond t (w.outlet n) c) (plain iparent) u)
      go true q h = h
      go false q (u, e, f, (x, y, z)) = (u, e, f, z ∙ ap (λ (k : ℕ). send k (plain iparent) u) (copy_log x y ∙ sym (copy_log c (⊎_elim (λ p. absurd (false≢true (sym q ∙ p))) (λ p. p) (alt _ _ ok)))))

  pub left_says : (v : List ℕ) (u : Val ℕ) → v ≡ vwords u → T (not (foreign u)) → Says w (labelled (leaving_on c) n v) (send (leaves_as w n c) (plain iparent) u)
  left_says v u e f = go (eqb c 1) refl
    where
      go : (t : Bool) → eqb c 1 ≡ t → Says w (labelled (cond t leaves logs) n v) (send (cond t (w.outlet n) c) (plain iparent) u)
      go true q = says_out e f
      go false q = says_log (⊎_elim (λ p. absurd (false≢true (sym q ∙ p))) (λ p. p) (alt _ _ ok)) e f

-- a value without strange names
some_app : (f : ℕ → Bool) (l m : List ℕ) → some_name f (l ++ m) ≡ false → (some_name f l ≡ false) × (some_name f m ≡ false)
some_app f [] m e = (refl, e)
some_app f (x ∷ l) m e =
    let a = or_none (f x) (some_name f (l ++ m)) e in
    let r = some_app f l m a.1 in
    (ap₂ (λ (p q : Bool). p || q) a.0 r.0, r.1)

mutual
  pub none_all : (f : ℕ → Bool) (v : Val ℕ) → some_name f (names v) ≡ false → AllV v (λ x. f x ≡ false)
  none_all f (nm x) e = (or_none (f x) false e).0
  none_all f (tup vs) e = nones_all f vs e

  pub nones_all : (f : ℕ → Bool) (v : Vals ℕ) → some_name f (namess v) ≡ false → AllVs v (λ x. f x ≡ false)
  nones_all f vnil e = tt
  nones_all f (vcons v vs) e = let r = some_app f (names v) (namess vs) e in (none_all f v r.0, nones_all f vs r.1)

pub T_not : (b : Bool) → T (not b) → b ≡ false
T_not true h = absurd h
T_not false h = refl

-- THE NUMBERS OF NAMES, as labels and as values have them
both_ends : (l h x : ℕ) → not (ltb x l) && ltb x (suc h) ≡ leb l x & leb x h
unfolding ◌&◌
both_ends l h x = go (leb l x) (leb x h) refl refl
  where
    go : (t u : Bool) → leb l x ≡ t → leb x h ≡ u → not (ltb x l) && ltb x (suc h) ≡ t & u
    go true true p q = rw (le-ltb x l (leb-true l x p), lt-ltb x (suc h) (let z = leb-true x h q in omega arith))
    go true false p q = rw (le-ltb x l (leb-true l x p), le-ltb x (suc h) (leb-false x h q))
    go false u p q = rw (lt-ltb x l (leb-false l x p))

or_is : (a b : Bool) → a || b ≡ a or b
unfolding ◌or◌
or_is true b = refl
or_is false b = refl

pub minted_number_is : (x : ℕ) → minted_number x ≡ is_minted x
minted_number_is x = ap₂ (λ (a b : Bool). a || b) (both_ends 65536 65791 x) (both_ends 131072 131327 x) ∙ or_is (leb 65536 x & leb x 65791) (leb 131072 x & leb x 131327)

public_is : (x : ℕ) → ltb x 64 ≡ is_public x
public_is x = go (leb x 63) refl
  where
    go : (t : Bool) → leb x 63 ≡ t → ltb x 64 ≡ t
    go true p = lt-ltb x 64 (let z = leb-true x 63 p in omega arith)
    go false p = le-ltb x 64 (leb-false x 63 p)

or_assoc : (a b c : Bool) → (a || b) || c ≡ a or (b or c)
unfolding ◌or◌
or_assoc true b c = refl
or_assoc false b c = or_is b c

pub enterable_is : (x : ℕ) → enterable x ≡ is_name x
enterable_is x = ap₂ (λ (a b : Bool). (a || b) || outside_number x) (public_is x) (minted_number_is x)
    ∙ ap (λ (c : Bool). (is_public x || is_minted x) || c) (both_ends 196608 196863 x) ∙ or_assoc (is_public x) (is_minted x) (is_outside x)

not_tuple : (x : ℕ) → x < 4000000 → is_tuple x ≡ false
not_tuple x l = go (is_tuple x) refl
  where
    go : (b : Bool) → is_tuple x ≡ b → b ≡ false
    go true q = let a = leb-true 4000000 x (fst _ _ q) in absurd (omega arith)
    go false q = refl

all_map : {A B : ℕ → Type 0} (v : Val ℕ) → ((x : ℕ) → A x → B x) → AllV v A → AllV v B
all_map v f h = AllV-map v f h

pub usual : (v : Val ℕ) → T (not (foreign v)) → AllV v (λ x. is_tuple x ≡ false)
usual v h = all_map v (λ x e. not_tuple x (let l = name_small x (sym (enterable_is x) ∙ not-false (enterable x) e) in omega arith)) (none_all (λ n. not (enterable n)) v (T_not (foreign v) h))

-- the value that words are, and the label's value
pub label_val : (ws : List ℕ) (v : Val ℕ) → every worded ws ≡ true → ws ≡ vwords v → T (not (foreign v)) → val_of ws ≡ v
label_val ws v h e n = ap val_of e ∙ val_back v (subst (λ (l : List ℕ). every worded l ≡ true) e h) (usual v n)

-- a step by its fields
step_eq : (x : Step) (κ σ i j : ℕ) (ws : List ℕ) → x.kind ≡ κ → x.side ≡ σ → x.i ≡ i → x.j ≡ j → x.words ≡ ws → record { kind = κ; side = σ; i = i; j = j; words = ws } ≡ x
step_eq x κ σ i j ws a b c d e = λ t. record { kind = sym a t; side = sym b t; i = sym c t; j = sym d t; words = sym e t }

pub empty_words : (ws : List ℕ) → eqb (length ws) 0 ≡ true → ws ≡ []
empty_words [] e = refl
empty_words (w ∷ ws) e = let z = eqb-true (suc (length ws)) 0 e in absurd (omega arith)

pub at_enter : (w : Wrapper) (x : Step) (σ : ℕ) (u : Mark) → x.kind ≡ 1 → x.side ≡ σ → x.i ≡ 0 → x.j ≡ 0 → At w x (joint u (enterer σ))
at_enter w x σ u a b c d = subst (λ (y : Step). At w y (joint u (enterer σ))) (step_eq x 1 σ 0 0 x.words a b c d refl) enter

pub at_down : (w : Wrapper) (x : Step) (σ : ℕ) → x.kind ≡ 2 → x.side ≡ σ → x.j ≡ 0 → x.words ≡ [] → At w x (joint (lobby σ x.i) (boxed σ 0))
at_down w x σ a b d e = subst (λ (y : Step). At w y (joint (lobby σ x.i) (boxed σ 0))) (step_eq x 2 σ x.i 0 [] a b refl d e) go_down

pub at_up : (w : Wrapper) (x : Step) (σ : ℕ) → x.kind ≡ 3 → x.side ≡ σ → x.j ≡ 0 → x.words ≡ [] → At w x (lone (part σ x.i))
at_up w x σ a b d e = subst (λ (y : Step). At w y (lone (part σ x.i))) (step_eq x 3 σ x.i 0 [] a b refl d e) go_up

pub at_descend : (w : Wrapper) (x : Step) (σ : ℕ) → x.kind ≡ 4 → x.side ≡ σ → x.words ≡ [] → At w x (joint (part σ x.i) (boxed σ x.j))
at_descend w x σ a b e = subst (λ (y : Step). At w y (joint (part σ x.i) (boxed σ x.j))) (step_eq x 4 σ x.i x.j [] a b refl refl e) descend

pub at_meet : (w : Wrapper) (x : Step) (σ : ℕ) → x.kind ≡ 5 → x.side ≡ σ → x.words ≡ [] → At w x (joint (part σ x.i) (part σ x.j))
at_meet w x σ a b e = subst (λ (y : Step). At w y (joint (part σ x.i) (part σ x.j))) (step_eq x 5 σ x.i x.j [] a b refl refl e) meet

pub at_pass : (w : Wrapper) (x : Step) (σ : ℕ) → x.kind ≡ 6 → x.side ≡ σ → x.j ≡ 0 → x.words ≡ [] → At w x (joint (lobby σ x.i) (passer σ))
at_pass w x σ a b d e = subst (λ (y : Step). At w y (joint (lobby σ x.i) (passer σ))) (step_eq x 6 σ x.i 0 [] a b refl d e) pass

pub at_leave : (w : Wrapper) (x : Step) (σ : ℕ) → x.kind ≡ 7 → x.side ≡ σ → x.j ≡ 0 → x.words ≡ [] → At w x (lone (lobby σ x.i))
at_leave w x σ a b d e = subst (λ (y : Step). At w y (lone (lobby σ x.i))) (step_eq x 7 σ x.i 0 [] a b refl d e) leave

pub at_take : (w : Wrapper) (x : Step) (n : ℕ) (r : Route) → get_elem? w.routes n ≡ some r → x.kind ≡ 8 → x.side ≡ r.receiver → x.j ≡ r.j → x.words ≡ [] → At w x (joint (shelf r.source x.i) (taker r.source r.receiver))
at_take w x n r g a b d e = subst (λ (y : Step). At w y (joint (shelf r.source x.i) (taker r.source r.receiver))) (step_eq x 8 r.receiver x.i r.j [] a b refl d e) (take n g)
