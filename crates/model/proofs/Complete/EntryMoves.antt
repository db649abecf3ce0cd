-- What the environment says: the input that takes the value is a side's entry.
use mathlib.Core.Path.{◌≡◌, refl, sym, ap, ◌∙◌, subst}
use mathlib.Core.Bool.{true, false}
use mathlib.Core.List.{[]}
use mathlib.Core.Option.{some}
use Prim.Native.Nat.{ℕ}
use lib.ListN.{get_elem?, set}
use Rattle.calculus.specs.Syntax.{Val, Vars, Tag, plain, Proc, AllT, tren, vren}
use Rattle.calculus.specs.Syntax.{inp as pinp, parent as iparent}
use Rattle.calculus.specs.Congruence.{◌≋◌}
use Rattle.calculus.specs.Transitions.{Label, recv, Participants, joint, In}
use Rattle.calculus.specs.Transitions.{Step as Trans}
use Rattle.calculus.specs.Tree.{Place, fill, upd}
use Rattle.calculus.specs.Parallel.{parallel}
use Rattle.calculus.specs.Tree.{select}
use Rattle.calculus.specs.Tree.{process}
use Rattle.model.specs.Side.{State}
use Rattle.model.specs.Load.{Composition, wrapper_of}
use Rattle.model.specs.WellFormed.{ready}
use Rattle.model.specs.Process.{Mark, conf_of, enters as entering-item}
use Rattle.calculus.proofs.Renaming.{AllT-map, AllT-ren}
use Rattle.calculus.proofs.FreeNames.{step_tag}
use Rattle.calculus.proofs.Inversion.{after}
use Rattle.calculus.proofs.Trees.{Has}
use Rattle.calculus.proofs.TreeMoves.{Move, receives, entering}
use Rattle.model.proofs.Processes.KnownNames.{known_all, All}
use Rattle.model.proofs.Sound.ItemMoves.{ids}
use Rattle.model.proofs.Sound.StateMoves.{wf_all}
use Rattle.model.proofs.Sound.SideViews.{View}
use Rattle.model.proofs.Complete.StateInversion.{transitions, item_at, ItemAt, atoms_at, items_atoms, fn_sel}
use Rattle.model.proofs.Complete.Completing.{Inv, on_some, Answers, own_unknown, tag_in, chan_in, mark_in, is_out, received}
use Rattle.model.proofs.Complete.WrapperLevel.{Input, enters_of, passes_of, takes_of, source_in, input_is}
use Rattle.model.proofs.Complete.ItemSides.{root_of}

module _ (b : Composition) (s : State) (e : ready b s ≡ true) where
  -- a box in the environment is a side's own
  no_box : (c : Place Mark) → Has c (conf_of b s).boxes → c.parent ≡ 0 → In (known_all s) c.name → ⊥
  no_box c h z k = let r = root_of b s e c h z in own_unknown b s r.side r.is_side (subst (In (known_all s)) r.name_is k)

  -- the input that takes the value
  pub record Taken (N : Proc Mark []) (x' : ℕ) (o' : Tag ℕ) (v' : Val ℕ) (w : Participants Mark) : Type 0 where
    pub u : Mark
    pub i : ℕ
    pub P : Proc Mark []
    pub Q : Proc Mark []
    pub who : w ≡ joint u (mark_in P)
    pub get : get_elem? (select (conf_of b s).items 0) i ≡ some P
    pub not_out : is_out P ≡ false
    pub chan : chan_in P ≡ x'
    pub tag : tag_in P ≡ o'
    pub got : received P v' ≡ some Q
    pub to : fill (conf_of b s).boxes (upd (λ k. parallel (select (conf_of b s).items k)) 0 (parallel (set (select (conf_of b s).items 0) i Q))) ≋ N

  abbrev Mv : Proc Mark [] → Label → Participants Mark → Type 0
  Mv N y w = Move (All b s) (conf_of b s).boxes (λ k. select (conf_of b s).items k) (wf_all b s e) (atoms_at (conf_of b s).items (items_atoms ids b s e)) (fn_sel b s e) N y w

  recv_inv : {N : Proc Mark []} {x' : ℕ} {o' : Tag ℕ} {v' : Val ℕ} {w : Participants Mark} → Mv N (recv x' o' v') w → AllT o' (In (known_all s)) → Taken N x' o' v' w
  recv_inv (receives {x = x'} {g = g} {v = v'} {u = u} {t = t} i m p P σ get fits ok eq) h = record {
    u = u;
    i = i;
    P = pinp m t x' g p P;
    Q = after m t x' g p P σ;
    who = refl;
    get = get;
    not_out = refl;
    chan = refl;
    tag = refl;
    got = ap (on_some (λ (σ : Vars p → Val ℕ). after m t x' g p P σ)) fits;
    to = eq;
  }
  recv_inv (entering c has z eq) h = absurd (no_box c has z h)

  -- that input is a side's entry, and so the label, renamed, is on the side's inlet
  pub record Entry {x : ℕ} {o : Tag ℕ} {v : Val ℕ} {R : Proc Mark []} {w : Participants Mark} (vv : Inv b s R (recv x o v) w) : Type 0 where
    pub vw : View b s
    pub an : Answers b s vw
    pub by : Taken vv.next (vv.perm.to x) (tren o vv.perm.to) (vren v vv.perm.to) w
    pub place : ItemAt (conf_of b s).items 0 by.i by.P
    pub is : by.P ≡ (entering-item ids (wrapper_of b) vw.c.side).what
    pub on : vv.perm.to x ≡ (wrapper_of b).inlet vw.c.side
    pub tagged : tren o vv.perm.to ≡ plain iparent

  pub entry_of : {x : ℕ} {o : Tag ℕ} {v : Val ℕ} {R : Proc Mark []} {w : Participants Mark} → Trans (known_all s) (process (conf_of b s)) (recv x o v) w R → (vv : Inv b s R (recv x o v) w) × Entry vv
  entry_of {x} {o} {v} {R} {w} d =
      let t = transitions b s e R d in
      let vv = t.0 in
      let tg : AllT (tren o vv.perm.to) (In (known_all s)) = AllT-ren o vv.perm.to (In (known_all s)) (AllT-map o (λ y h. subst (In (known_all s)) (sym (vv.keeps y h)) h) (step_tag d)) in
      let r = recv_inv t.1 tg in
      let a = item_at (conf_of b s).items 0 r.i r.P r.get in
      (vv, by_input vv tg r a (input_is b s e a.X a.Y r.P a.is r.not_out))
    where
      by_input : (vv : Inv b s R (recv x o v) w) → AllT (tren o vv.perm.to) (In (known_all s)) → (r : Taken vv.next (vv.perm.to x) (tren o vv.perm.to) (vren v vv.perm.to) w)
          → ItemAt (conf_of b s).items 0 r.i r.P → Input b s r.P → Entry vv
      by_input vv tg r a (enters_of vw an q) = record { vw = vw; an = an; by = r; place = a; is = q; on = sym r.chan ∙ ap chan_in q; tagged = sym r.tag ∙ ap tag_in q }
      by_input vv tg r a (passes_of vw an q) = absurd (own_unknown b s vw.c.side vw.is_side (subst (λ (y : Tag ℕ). AllT y (In (known_all s))) (sym r.tag ∙ ap tag_in q) tg))
      by_input vv tg r a (takes_of n p g q) = absurd (own_unknown b s p.source (source_in b n p g) (subst (λ (y : Tag ℕ). AllT y (In (known_all s))) (sym r.tag ∙ ap tag_in q) tg))
