-- What the parts of `Complete` share: the statement for one transition, the parts of an output and of an input, the steps of a side by their results.
use mathlib.Core.Path.{◌≡◌, refl, sym, ap, ap₂, ◌∙◌, subst}
use mathlib.Core.Bool.{Bool, true, false}
use mathlib.Core.List.{List, []}
use mathlib.Core.Logic.{◌⊎◌, inl, inr}
use mathlib.Core.Option.{Option, none, some}
use Prim.Native.Nat.{ℕ, ◌≤◌}
use native.Mathlib.Omega.{arith}
use borrow.Author.Tests.{leb-false, le-leb}
use lib.Dec.{leb}
use lib.ListN.{length}
use Rattle.calculus.specs.Syntax.{Val, Vars, Tag, ITag, plain, received_parent, Proc, nm, match}
use Rattle.calculus.specs.Syntax.{par as ppar, box as pbox, new as pnew, nil as pnil, out as pout, inp as pinp}
use Rattle.calculus.specs.Transitions.{Label, Participants, In}
use Rattle.calculus.specs.Transitions.{Step as Trans}
use Rattle.calculus.specs.Tree.{fill}
use Rattle.calculus.specs.Tree.{Item}
use Rattle.calculus.specs.Wrappers.{forward_with}
use Rattle.model.specs.Basics.{◌&◌, Res, refuse, done, need, bind, every}
use Rattle.model.specs.Wrapper.{has_side}
use Rattle.model.specs.Side.{State, Message, Core, limits, side, put_side}
use Rattle.model.specs.Load.{Composition, wrapper_of, table, Setting, setting}
use Rattle.model.specs.WellFormed.{Counts, shelf_of, ready}
use Rattle.model.specs.Step.{short, Step, Moved, labelled, refusal, Result, settled, local, step, known, answer_of, side_after, marks}
use Rattle.model.specs.Process.{Mark, inert, own_name, conf_of, new_of}
use Rattle.model.specs.Agreement.{At, Asks, Met, Excused}
use Rattle.calculus.proofs.Inversion.{after}
use Rattle.calculus.proofs.Forwarders.{sends, body_inst}
use Rattle.calculus.proofs.Equivariance.{lren}
use Rattle.calculus.proofs.Restriction.{RestrictInv}
use Rattle.calculus.proofs.Restriction.{known as all_of}
use Rattle.calculus.proofs.Bags.{at}
use Rattle.model.proofs.Formed.Growing.{CoreOk}
use Rattle.model.proofs.Formed.Invariant.{settled_is, core_short}
use Rattle.model.proofs.Independent.Independence.{step_has}
use Rattle.model.proofs.Processes.KnownNames.{known_all, outside_names, known_by, map_in, own_unknown as no_own}
use Rattle.model.proofs.Sound.SideViews.{View, view}

-- `Complete` for one transition
abbrev pub Completed : Composition → State → Label → Participants Mark → Proc Mark [] → Type 0
Completed b s l w R = ((k : Step) × At (wrapper_of b) k w × Asks k l) × ((k : Step) → At (wrapper_of b) k w → Asks k l → Met (known_all s) b s l R k ⊎ ((n : ℕ) × ((step b s k).answer ≡ refusal n k.side) × Excused b s k l n))

-- a transition taken apart, and the same for other participants
abbrev pub Inv : Composition → State → Proc Mark [] → Label → Participants Mark → Type 0
Inv b s R l w = RestrictInv (new_of b s) (known_all s) (fill (conf_of b s).boxes (at (conf_of b s).items)) R l w

abbrev pub inv_at : {N A : List ℕ} {P R : Proc Mark []} {l : Label} {w w' : Participants Mark} → w ≡ w' → RestrictInv N A P R l w → RestrictInv N A P R l w'
inv_at {N} {A} {P} {R} {l} q v = record {
  perm = v.perm;
  keeps = v.keeps;
  next = v.next;
  step = subst (λ (y : Participants Mark). Trans (all_of N A) P (lren l v.perm.to) y v.next) q v.step;
  target = v.target;
}

-- own names are not known outside
pub own_unknown : (b : Composition) (s : State) (side : ℕ) → has_side (wrapper_of b) side ≡ true → In (known_all s) (own_name side) → ⊥
own_unknown b s side h k = no_own b s (own_name side) (map_in own_name (wrapper_of b).sides side h) (known_by outside_names s (own_name side) k)

pub what_eq : {M : Type 0} {a b : Item M} → a ≡ b → a.what ≡ b.what
what_eq e = ap (λ (i : Item _). i.what) e

pub site_eq : {M : Type 0} {a b : Item M} → a ≡ b → a.site ≡ b.site
site_eq e = ap (λ (i : Item _). i.site) e

-- the parts of an output
abbrev pub tag_in : Proc Mark [] → Tag ℕ
tag_in pnil = received_parent
tag_in (ppar P Q) = received_parent
tag_in (pbox t n P) = received_parent
tag_in (pnew P) = received_parent
tag_in (pout t x o v) = o
tag_in (pinp m t x i p P) = plain i

abbrev pub chan_in : Proc Mark [] → ℕ
chan_in pnil = 0
chan_in (ppar P Q) = 0
chan_in (pbox t n P) = 0
chan_in (pnew P) = 0
chan_in (pout t x o v) = x
chan_in (pinp m t x i p P) = x

abbrev pub val_in : Proc Mark [] → Val ℕ
val_in pnil = nm 0
val_in (ppar P Q) = nm 0
val_in (pbox t n P) = nm 0
val_in (pnew P) = nm 0
val_in (pout t x o v) = v
val_in (pinp m t x i p P) = nm 0

abbrev pub mark_in : Proc Mark [] → Mark
mark_in pnil = inert
mark_in (ppar P Q) = inert
mark_in (pbox t n P) = inert
mark_in (pnew P) = inert
mark_in (pout t x o v) = t
mark_in (pinp m t x i p P) = t

abbrev pub is_out : Proc Mark [] → Bool
is_out pnil = false
is_out (ppar P Q) = false
is_out (pbox t n P) = false
is_out (pnew P) = false
is_out (pout t x o v) = true
is_out (pinp m t x i p P) = false

-- what an input is after a value has come to it
abbrev pub on_some : {A B : Type 0} → (A → B) → Option A → Option B
on_some f none = none
on_some f (some a) = some (f a)

abbrev pub received : Proc Mark [] → Val ℕ → Option (Proc Mark [])
received pnil u = none
received (ppar P Q) u = none
received (pbox t n P) u = none
received (pnew P) u = none
received (pout t x o v) u = none
received (pinp m t x i p P) u = on_some (λ (σ : Vars p → Val ℕ). after m t x i p P σ) (match p u)

-- what a forwarder is after a value has come to it: it stays, and sends copies and the value on
pub forwarded : (cs : List ℕ) (P : Proc Mark []) (t : Mark) (x : ℕ) (i : ITag ℕ) (z : ℕ) (o : ITag ℕ) → P ≡ forward_with [] t inert cs x i z o → (v : Val ℕ) (Q : Proc Mark []) → received P v ≡ some Q →
    Q ≡ ppar (forward_with [] t inert cs x i z o) (sends inert cs v (pout inert z (plain o) v))
forwarded cs P t x i z o e v Q r = some_inj (sym r ∙ ap (λ (A : Proc Mark []). received A v) e ∙ ap (λ (A : Proc Mark []). some (ppar (forward_with [] t inert cs x i z o) A)) (body_inst inert cs z o v))
  where
    some_inj : {A : Type 0} {a c : A} → some a ≡ some c → a ≡ c
    some_inj q = cc

-- a side's steps by their results
pub record Answers (b : Composition) (s : State) (vw : View b s) : Type 0 where
  pub is_done_lem : (k : Step) (m : Moved) → k.side ≡ vw.c.side → settled (local vw.c (known s) (shelf_of s) vw.core k) ≡ done m
      → step b s k ≡ record { answer = labelled m.label vw.c.side m.val; after = vw.next m.core (marks m.label m.val vw.left) }
  pub is_refused_lem : (k : Step) (n : ℕ) → k.side ≡ vw.c.side → settled (local vw.c (known s) (shelf_of s) vw.core k) ≡ refuse n → (step b s k).answer ≡ refusal n vw.c.side
  pub core_is : (side s vw.c.side).core ≡ vw.core
  pub table_is : table b vw.c.side ≡ vw.c.table
  pub wrapper_is : vw.c.wrapper ≡ wrapper_of b

module _ (b : Composition) (s : State) (e : ready b s ≡ true) (n : ℕ) (h : has_side (wrapper_of b) n ≡ true) where
  pub step_is : (k : Step) (r : Res Moved) → k.side ≡ n → settled (local (setting b n) (known s) (shelf_of s) (side s n).core k) ≡ r → step b s k ≡ record { answer = answer_of n r; after = put_side s n (side_after (side s n) r) }
  step_is k r sd q = step_has b s k e (subst (λ (m : ℕ). has_side (wrapper_of b) m ≡ true) (sym sd) h)
      ∙ ap (λ (m : ℕ). let r = settled (local (setting b m) (known s) (shelf_of s) (side s m).core k) in record { answer = answer_of m r; after = put_side s m (side_after (side s m) r) }) sd
      ∙ ap (λ (r : Res Moved). record { answer = answer_of n r; after = put_side s n (side_after (side s n) r) }) q

  pub answers : Answers b s (view b s e n h)
  unfolding view
  answers = record {
    is_done_lem = λ k m sd q. step_is k (done m) sd q;
    is_refused_lem = λ k n sd q. ap (λ (r : Result). r.answer) (step_is k (refuse n) sd q);
    core_is = refl;
    table_is = refl;
    wrapper_is = refl;
  }

-- a step that leaves another lobby: it is settled, or the lobby is over its limit
refused_17 : (m : Moved) → every short m.core.contents.particles ≡ true → limits m.core ≡ false → settled (done m) ≡ refuse 17
unfolding settled bind need
refused_17 m p q = rw (p, q)

few_by : (c : Setting) (k : Counts) (s : Core) → CoreOk c k s → (l : List Message) (tk : List Bool) (t : Bool) → leb (length l) 16 ≡ t → limits (record { contents = s.contents; lobby = l; shelf = s.shelf; taken = tk }) ≡ t
unfolding limits ◌&◌
few_by c k s o l tk t q = ap₂ (λ (x y : Bool). x & (y & leb (length s.shelf) 32)) o.contents.few q ∙ ap (λ (y : Bool). t & y) (le-leb (length s.shelf) 32 o.few_shelf) ∙ last t
  where
    last : (t : Bool) → t & true ≡ t
    last true = refl
    last false = refl

pub lobby_put : (c : Setting) (k : Counts) (s : Core) → CoreOk c k s → (l : List Message) (tk : List Bool) (m : Moved) → m.core ≡ record { contents = s.contents; lobby = l; shelf = s.shelf; taken = tk }
    → (settled (done m) ≡ done m) ⊎ ((settled (done m) ≡ refuse 17) × (17 ≤ length l))
lobby_put c k s o l tk m em = go (leb (length l) 16) refl
  where
    short_all : every short m.core.contents.particles ≡ true
    short_all = ap (λ (u : Core). every short u.contents.particles) em ∙ core_short c k s o

    go : (t : Bool) → leb (length l) 16 ≡ t → (settled (done m) ≡ done m) ⊎ ((settled (done m) ≡ refuse 17) × (17 ≤ length l))
    go true q = inl (settled_is (done m) m (record { is = refl; short_outputs = short_all; few = ap limits em ∙ few_by c k s o l tk true q }))
    go false q = inr (refused_17 m short_all (ap limits em ∙ few_by c k s o l tk false q), (let z = leb-false (length l) 16 q in omega arith))
