-- Demand 2, load: the loaded state is the wrapper round the tables' processes.
use mathlib.Core.Path.{◌≡◌, refl, sym, ap, ◌∙◌, subst, subst₂, fun_ext}
use mathlib.Core.Bool.{Bool, true, false, cond}
use mathlib.Core.List.{List, [], ◌∷◌}
use mathlib.Core.Logic.{inr}
use Prim.Native.Nat.{ℕ, ◌<◌, ◌≤◌}
use native.Mathlib.Omega.{arith}
use borrow.Author.Tests.{leb-true, ltb-true, ne_eqb}
use lib.Dec.{ltb, eqb}
use Rattle.calculus.specs.Syntax.{Val, nm, var, Proc, AllN, ren, closed, remark, under, the_bound}
use Rattle.calculus.specs.Syntax.{nil as pnil, par as ppar}
use Rattle.calculus.specs.Congruence.{◌≋◌, rfl, symm, trans, in_par, in_box, in_new, par_nil}
use Rattle.calculus.specs.Transitions.{restrict, In}
use Rattle.calculus.specs.Tree.{fill}
use Rattle.calculus.specs.Tree.{Item}
use Rattle.calculus.specs.Tree.{process}
use Rattle.calculus.specs.Named.{Code, proc, public}
use Rattle.calculus.specs.Wrappers.{W1, W2, L, two_scope, far}
use Rattle.model.specs.Wrapper.{described, has_side}
use Rattle.model.specs.Basics.{◌&◌, ◌or◌}
use Rattle.model.specs.Values.{no_names}
use Rattle.model.specs.Table.{Table, term}
use Rattle.model.specs.Side.{State, empty_contents, no_side, within_limits, limits, start_side}
use Rattle.model.specs.Load.{Composition, Setting, setting, wrapper_of, table, ok, load, is_ok, start}
use Rattle.model.specs.WellFormed.{Counts, counts, shelf_of, wf_state, wf_side_of, wf_side, wf_core, wf_contents, wf_boxes, wf_left, wf_taken, is_no_side, ready}
use Rattle.model.specs.Process.{site_of, code_of, env_of, val_of, conf_as, conf_of, new_of}
use Rattle.model.specs.Agreement.{plainly, LoadAgrees}
use Rattle.calculus.proofs.Extrusion.{Fresh, closed_fresh}
use Rattle.calculus.proofs.Unfolding.{proc_all}
use Rattle.calculus.proofs.WrapperStart.{closed2, sound_names}
use Rattle.calculus.proofs.Bags.{item, at, ritems, rplaces}
use Rattle.model.proofs.Basics.Tests.{both, snd}
use Rattle.model.proofs.Basics.Checked.{Checked, Sits, sits}
use Rattle.model.proofs.Formed.Invariant.{load_checked}
use Rattle.model.proofs.Formed.Starts.{start_side_lem, fits_names, scope_root, load_state}
use Rattle.model.proofs.Processes.KnownNames.{All, low_in}
use Rattle.model.proofs.Sound.ItemMoves.{forget, whole°}
use Rattle.model.proofs.Sound.SideViews.{view}
use Rattle.model.proofs.Sound.BoxOrder.{orient}
use Rattle.model.proofs.Sound.Substitutions.{single}
use Rattle.model.proofs.Sound.MeetTargets.{grown_cong, plain_process}

env_none : env_of no_names ≡ public
unfolding env_of
env_none = fun_ext (λ n. go n (ltb n 64) refl)
  where
    go : (n : ℕ) (b : Bool) → ltb n 64 ≡ b → cond b (val_of (n ∷ [])) (nm 0) ≡ nm (cond b n 0)
    go n true e = single n (let l = ltb-true n 64 e in omega arith)
    go n false e = refl

root_sits : (t : Table) → Checked t → Sits t [] (term t 0)
root_sits t c = subst (λ (x : List ℕ). Sits t x (term t 0)) (scope_root t) (sits t c 0 c.some)

-- a process with public names only
low : (y : ℕ) (n : ℕ) → 63 < y → eqb y (cond (ltb n 64) n 0) ≡ false
low y n h = go (ltb n 64) refl
  where
    go : (b : Bool) → ltb n 64 ≡ b → eqb y (cond b n 0) ≡ false
    go true e = let l = ltb-true n 64 e in ne_eqb y n (λ q. omega arith)
    go false e = ne_eqb y 0 (λ q. omega arith)

fresh_of : (y : ℕ) → 63 < y → (c : Code) → Fresh y (proc {T = Unit {0}} [] tt c public)
fresh_of y h c = proc_all [] tt c public (λ x. eqb y x ≡ false) (sound_names [] c public (λ n. tt)) (λ n. low y n h)

low_names : (b : Composition) (s : State) (c : Code) → AllN (proc {T = Unit {0}} [] tt c public) (In (All b s))
low_names b s c = proc_all [] tt c public (In (All b s)) (sound_names [] c public (λ n. tt)) (λ n. low_in b s (cond (ltb n 64) n 0) (let z = go (ltb n 64) n refl in omega (arith, z)))
  where
    go : (t : Bool) (n : ℕ) → ltb n 64 ≡ t → cond t n 0 < 64
    go true n e = ltb-true n 64 e
    go false n e = omega arith

-- an empty side is well formed
empty_side : (c : Setting) (k : Counts) (sh : ℕ → List (List ℕ)) → wf_side c k sh (start_side empty_contents) ≡ true
unfolding wf_side wf_core wf_contents wf_boxes wf_left wf_taken ◌&◌ ◌or◌ limits
empty_side c k sh = refl

module _ (ts : List Table) where
  abbrev wrapped : ℕ → Composition
  wrapped w = record { wrapper = w; tables = ts }

  -- with the filter, the pipeline and the logging wrapper
  abbrev b1 : Composition
  b1 = wrapped 1

  abbrev b2 : Composition
  b2 = wrapped 2

  abbrev b3 : Composition
  b3 = wrapped 3

  abbrev T1 : Table
  T1 = table b1 1

  abbrev T2 : Table
  T2 = table b2 2

  abbrev s01 : State
  s01 = record { sides = start_side empty_contents ∷ no_side ∷ [] }

  abbrev s11 : State
  s11 = record { sides = start_side (start 1 T1) ∷ no_side ∷ [] }

  abbrev s02 : State
  s02 = record { sides = start_side empty_contents ∷ start_side empty_contents ∷ [] }

  abbrev s12 : State
  s12 = record { sides = start_side (start 1 T1) ∷ start_side empty_contents ∷ [] }

  abbrev s22 : State
  s22 = record { sides = start_side (start 1 T1) ∷ start_side (start 2 T2) ∷ [] }

  no_side_lem : is_no_side no_side ≡ true
  unfolding is_no_side ◌&◌
  no_side_lem = refl

  ready01 : is_ok (load b1) ≡ true → ready b1 s01 ≡ true
  unfolding ready wf_state wf_side_of
  ready01 e = both _ _ e (both _ _ refl (both _ _ (empty_side (setting b1 1) _ _) (both _ _ no_side_lem refl)))

  ready02 : is_ok (load b2) ≡ true → ready b2 s02 ≡ true
  unfolding ready wf_state wf_side_of
  ready02 e = both _ _ e (both _ _ refl (both _ _ (empty_side (setting b2 1) _ _) (both _ _ (empty_side (setting b2 2) _ _) refl)))

  ready12 : is_ok (load b2) ≡ true → Checked T1 → within_limits (start 1 T1) ≡ true → ready b2 s12 ≡ true
  unfolding ready wf_state wf_side_of
  ready12 l c r = both _ _ l (both _ _ refl (both _ _ (start_side_lem (setting b2 1) (counts s12) (shelf_of s12) c refl refl r) (both _ _ (empty_side (setting b2 2) _ _) refl)))

  abbrev P1 : Proc (Unit {0}) []
  P1 = proc [] tt (code_of (term T1 0)) public

  abbrev P2 : Proc (Unit {0}) []
  P2 = proc [] tt (code_of (term T2 0)) public

  -- the processes with the marks forgotten
  abbrev plain_of : Composition → State → List (Item (Unit {0})) → Proc (Unit {0}) []
  plain_of b s I = restrict (new_of b s) (fill (rplaces forget (conf_of b s).boxes) (at I))

  -- a wrapper of side 1 alone: the process of a start, by that of the handler beside an empty side
  alone : (w : ℕ) (h : has_side (described w) 1 ≡ true) (X : Proc (Unit {0}) []) → ready (wrapped w) s01 ≡ true →
      plain_of (wrapped w) s01 (item (site_of 1 0) P1 ∷ ritems forget (conf_of (wrapped w) s01).items) ≋ X →
      Checked T1 → within_limits (start 1 T1) ≡ true → plainly (process (conf_of (wrapped w) s11)) ≋ X
  unfolding start view
  alone w h X e starts c r =
      let b = wrapped w in
      let vw = view b s01 e 1 h in
      let si = root_sits T1 c in
      let few : (start 1 T1).minted ≤ 256 = leb-true (start 1 T1).minted 256 (snd _ _ (snd _ _ r)) in
      subst (λ (P : Proc (Unit {0}) []). P ≋ X) (sym (plain_process b s11))
      (trans (symm (subst₂ (λ (ρ : ℕ → Val ℕ) (I : List (Item (Unit {0}))). plain_of b s01 (item (site_of 1 0) (proc [] tt (code_of (term T1 0)) ρ) ∷ I) ≋ plain_of b s11 (ritems forget (conf_of b s11).items)) env_none
      (sym (whole° (wrapper_of b) 1 T1 vw.C vw.D vw.core) ∙ ap (ritems forget) (sym vw.items_now))
      (grown_cong b s01 e (view b s01 e 1 h) (orient b s01 e 1 h) (refl, refl) [] tt (λ k. refl) si no_names refl refl refl (fits_names si no_names refl) 0 (omega arith) [] refl few)))
      starts)

  -- the handler in the wrapper's box
  boxed : ppar (closed 81 P1) pnil ≋ ren {r = var ∷ []} P1 inr
  boxed = trans par_nil (subst (λ (X : Proc (Unit {0}) (var ∷ [])). X ≋ ren {r = var ∷ []} P1 inr) (sym (closed_fresh 81 P1 (fresh_of 81 (omega arith) (code_of (term T1 0))))) rfl)

  -- the filter
  start_is : plain_of b1 s01 (item (site_of 1 0) P1 ∷ ritems forget (conf_of b1 s01).items) ≋ W1 tt P1
  unfolding new_of conf_as remark restrict fill ren
  start_is = in_new (in_par (in_box boxed) rfl)

  -- the logging wrapper
  ready03 : is_ok (load b3) ≡ true → ready b3 s01 ≡ true
  unfolding ready wf_state wf_side_of
  ready03 e = both _ _ e (both _ _ refl (both _ _ (empty_side (setting b3 1) _ _) (both _ _ no_side_lem refl)))

  start3_is : plain_of b3 s01 (item (site_of 1 0) P1 ∷ ritems forget (conf_of b3 s01).items) ≋ L tt P1
  unfolding new_of conf_as remark restrict fill ren
  start3_is = in_new (in_par (in_box boxed) rfl)

  -- the pipeline
  start2_is : plain_of b2 s02 (item (site_of 1 0) P1 ∷ item (site_of 2 0) P2 ∷ ritems forget (conf_of b2 s02).items) ≋ W2 tt P1 P2
  unfolding new_of conf_as remark restrict fill ren
  start2_is = in_new (in_new
      (in_par (in_box (inner P1 (fresh_of 81 (omega arith) (code_of (term T1 0))) (fresh_of 82 (omega arith) (code_of (term T1 0)))))
      (in_par (in_box (inner P2 (fresh_of 81 (omega arith) (code_of (term T2 0))) (fresh_of 82 (omega arith) (code_of (term T2 0))))) rfl)))
    where
      inner : (S : Proc (Unit {0}) []) → Fresh 81 S → Fresh 82 S → ppar (ren {r = two_scope} (closed 82 S) (under (the_bound 81))) pnil ≋ ren {r = two_scope} S far
      inner S h k = trans par_nil (subst (λ (X : Proc (Unit {0}) two_scope). X ≋ ren {r = two_scope} S far) (sym (closed2 S h k)) rfl)

  first_step : Checked T1 → within_limits (start 1 T1) ≡ true → (e : ready b2 s02 ≡ true)
      → plain_of b2 s02 (item (site_of 1 0) P1 ∷ item (site_of 2 0) P2 ∷ ritems forget (conf_of b2 s02).items) ≋ plain_of b2 s12 (item (site_of 2 0) P2 ∷ ritems forget (conf_of b2 s12).items)
  unfolding start view
  first_step c r e =
      let si = root_sits T1 c in
      let few : (start 1 T1).minted ≤ 256 = leb-true (start 1 T1).minted 256 (snd _ _ (snd _ _ r)) in
      let vw = view b2 s02 e 1 refl in
      subst₂ (λ (ρ : ℕ → Val ℕ) (I : List (Item (Unit {0}))). plain_of b2 s02 (item (site_of 1 0) (proc [] tt (code_of (term T1 0)) ρ) ∷ item (site_of 2 0) P2 ∷ I) ≋ plain_of b2 s12
      (item (site_of 2 0) P2 ∷ ritems forget (conf_of b2 s12).items)) env_none
      (sym (whole° (wrapper_of b2) 1 T1 vw.C vw.D vw.core) ∙ ap (ritems forget) (sym vw.items_now))
      (grown_cong b2 s02 e (view b2 s02 e 1 refl) (orient b2 s02 e 1 refl) (refl, refl) (item (site_of 2 0) P2 ∷ []) (low_names b2 s02 (code_of (term T2 0)), tt)
      (λ k. ap (λ (t : Bool). cond t (P2 ∷ []) []) (ne_eqb (site_of 1 k) 2 (λ q. omega arith)))
      si no_names refl refl refl (fits_names si no_names refl) 0 (omega arith) [] refl few)

  second_step : Checked T2 → within_limits (start 2 T2) ≡ true → (e : ready b2 s12 ≡ true) → plain_of b2 s12 (item (site_of 2 0) P2 ∷ ritems forget (conf_of b2 s12).items) ≋ plain_of b2 s22 (ritems forget (conf_of b2 s22).items)
  unfolding start view
  second_step c r e =
      let si = root_sits T2 c in
      let few : (start 2 T2).minted ≤ 256 = leb-true (start 2 T2).minted 256 (snd _ _ (snd _ _ r)) in
      let vw = view b2 s12 e 2 refl in
      subst₂ (λ (ρ : ℕ → Val ℕ) (I : List (Item (Unit {0}))). plain_of b2 s12 (item (site_of 2 0) (proc [] tt (code_of (term T2 0)) ρ) ∷ I) ≋ plain_of b2 s22 (ritems forget (conf_of b2 s22).items)) env_none
      (sym (whole° (wrapper_of b2) 2 T2 vw.C vw.D vw.core) ∙ ap (ritems forget) (sym vw.items_now))
      (grown_cong b2 s12 e (view b2 s12 e 2 refl) (orient b2 s12 e 2 refl) (refl, refl) [] tt (λ k. refl) si no_names refl refl refl (fits_names si no_names refl) 0 (omega arith) [] refl few)

  pipeline : is_ok (load b2) ≡ true → Checked T1 → within_limits (start 1 T1) ≡ true → Checked T2 → within_limits (start 2 T2) ≡ true → plainly (process (conf_of b2 s22)) ≋ W2 tt P1 P2
  pipeline l c r c' r' =
      let e0 = ready02 l in
      subst (λ (P : Proc (Unit {0}) []). P ≋ W2 tt P1 P2) (sym (plain_process b2 s22))
      (trans (symm (trans (first_step c r e0) (second_step c' r' (ready12 l c r)))) start2_is)

  -- what load gives
  pub one_agrees : (s : State) → load b1 ≡ ok s → plainly (process (conf_of b1 s)) ≋ W1 tt P1
  one_agrees s e =
      let a = load_checked b1 (ap is_ok e) 1 refl in
      subst (λ (t : State). plainly (process (conf_of b1 t)) ≋ W1 tt P1) (load_state b1 s e) (alone 1 refl (W1 tt P1) (ready01 (ap is_ok e)) start_is a.0 a.1)

  pub three_agrees : (s : State) → load b3 ≡ ok s → plainly (process (conf_of b3 s)) ≋ L tt P1
  three_agrees s e =
      let a = load_checked b3 (ap is_ok e) 1 refl in
      subst (λ (t : State). plainly (process (conf_of b3 t)) ≋ L tt P1) (load_state b3 s e) (alone 3 refl (L tt P1) (ready03 (ap is_ok e)) start3_is a.0 a.1)

  pub two_agrees : (s : State) → load b2 ≡ ok s → plainly (process (conf_of b2 s)) ≋ W2 tt P1 P2
  two_agrees s e =
      let a = load_checked b2 (ap is_ok e) 1 refl in
      let c = load_checked b2 (ap is_ok e) 2 refl in
      subst (λ (t : State). plainly (process (conf_of b2 t)) ≋ W2 tt P1 P2) (load_state b2 s e) (pipeline (ap is_ok e) a.0 a.1 c.0 c.1)

pub load_agrees : LoadAgrees
unfolding LoadAgrees
load_agrees b s e = (λ w. as_W1 w e, λ w. as_W2 w e, λ w. as_L w e)
  where
    as_W1 : b.wrapper ≡ 1 → load b ≡ ok s → plainly (process (conf_of b s)) ≋ W1 tt (proc [] tt (code_of (term (table b 1) 0)) public)
    as_W1 w = subst (λ (x : ℕ). load (record { wrapper = x; tables = b.tables }) ≡ ok s →
        plainly (process (conf_of (record { wrapper = x; tables = b.tables }) s)) ≋ W1 tt (proc [] tt (code_of (term (table b 1) 0)) public)) (sym w) (one_agrees b.tables s)

    as_L : b.wrapper ≡ 3 → load b ≡ ok s → plainly (process (conf_of b s)) ≋ L tt (proc [] tt (code_of (term (table b 1) 0)) public)
    as_L w = subst (λ (x : ℕ). load (record { wrapper = x; tables = b.tables }) ≡ ok s →
        plainly (process (conf_of (record { wrapper = x; tables = b.tables }) s)) ≋ L tt (proc [] tt (code_of (term (table b 1) 0)) public)) (sym w) (three_agrees b.tables s)

    as_W2 : b.wrapper ≡ 2 → load b ≡ ok s → plainly (process (conf_of b s)) ≋ W2 tt (proc [] tt (code_of (term (table b 1) 0)) public) (proc [] tt (code_of (term (table b 2) 0)) public)
    as_W2 w = subst (λ (x : ℕ). load (record { wrapper = x; tables = b.tables }) ≡ ok s →
        plainly (process (conf_of (record { wrapper = x; tables = b.tables }) s)) ≋ W2 tt (proc [] tt (code_of (term (table b 1) 0)) public) (proc [] tt (code_of (term (table b 2) 0)) public)) (sym w) (two_agrees b.tables s)
