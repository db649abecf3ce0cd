-- Complete: each transition of a state's process has a step at its place, which takes it or is refused for a stated cause.
use mathlib.Core.Path.{◌≡◌, refl, sym, ap, ◌∙◌, subst}
use mathlib.Core.Bool.{Bool, true, false, false≢true}
use mathlib.Core.Logic.{◌≢◌, ◌⊎◌, inl, inr, ⊎_elim}
use mathlib.Core.List.{List, [], ◌∷◌}
use mathlib.Core.Option.{some}
use Prim.Native.Nat.{ℕ}
use borrow.Author.Tests.{eqb-true, eqb-false}
use lib.Dec.{eqb}
use lib.ListN.{get_elem?, set}
use Rattle.calculus.specs.Syntax.{Val, Pat, Vars, ITag, plain, Mode, Proc, comp, match, ren}
use Rattle.calculus.specs.Syntax.{nil as pnil, out as pout, inp as pinp}
use Rattle.calculus.specs.Congruence.{◌≋◌}
use Rattle.calculus.specs.Transitions.{Label, tau, send, recv, Participants, joint, InstOk}
use Rattle.calculus.specs.Transitions.{Step as Trans}
use Rattle.calculus.specs.Parallel.{parallel}
use Rattle.calculus.specs.Tree.{fill, upd}
use Rattle.calculus.specs.Tree.{select, process}
use Rattle.model.specs.Basics.{every}
use Rattle.model.specs.Values.{is_outside}
use Rattle.model.specs.Side.{State}
use Rattle.model.specs.Load.{Composition, wrapper_of}
use Rattle.model.specs.WellFormed.{ready}
use Rattle.model.specs.Process.{Mark, conf_of, known_of}
use Rattle.model.specs.Step.{Step, refusal, step}
use Rattle.model.specs.Agreement.{At, Asks, asks_out, Says, plainly, process_of, Met, renamed, Excused, by_11_long, by_11_name, by_12, by_16, by_17, Written, Complete}
use Rattle.calculus.proofs.Renaming.{ren_ren}
use Rattle.calculus.proofs.Equivariance.{lren}
use Rattle.calculus.proofs.Restriction.{lren_lren}
use Rattle.calculus.proofs.Members.{step_members}
use Rattle.calculus.proofs.KnownNames.{IsRecv, lren_fix}
use Rattle.calculus.proofs.MoreNames.{Freed, more_names}
use Rattle.calculus.proofs.Inversion.{after}
use Rattle.calculus.proofs.TreeMoves.{Move, meets, rising, descending}
use Rattle.model.proofs.Processes.KnownNames.{outside_names, known_all, known_fewer, known_more, All}
use Rattle.model.proofs.Sound.ItemMoves.{ids}
use Rattle.model.proofs.Sound.StateMoves.{wf_all}
use Rattle.model.proofs.Complete.StateInversion.{transitions, atoms_at, items_atoms, fn_sel}
use Rattle.model.proofs.Complete.Completing.{Completed, Inv}
use Rattle.model.proofs.Complete.CompleteOut.{complete_out}
use Rattle.model.proofs.Complete.CompleteIn.{complete_in}
use Rattle.model.proofs.Complete.CompleteForward.{complete_forward}
use Rattle.model.proofs.Complete.CompleteUp.{complete_rising}
use Rattle.model.proofs.Complete.CompleteDown.{complete_descending}
use Rattle.model.proofs.Complete.CompleteMeet.{complete_meeting}

module _ (b : Composition) (s : State) (e : ready b s ≡ true) where
  abbrev sel : ℕ → List (Proc Mark [])
  sel k = select (conf_of b s).items k

  to_next : {P N Q : Proc Mark []} → P ≋ N → Q ≡ N → P ≋ Q
  to_next {P} h q = subst (λ (Z : Proc Mark []). P ≋ Z) (sym q) h

  -- an output meets an input: outside all boxes the input is a forwarder, within a box both are particles
  meeting : (t u : Mark) (R : Proc Mark []) (v : Inv b s R tau (joint t u)) (k i j x : ℕ) (g : ITag ℕ) (y : Val ℕ) (m : Mode) (p : Pat) (P : Proc Mark (p ∷ [])) (σ : Vars p → Val ℕ) → i ≢ j
      → get_elem? (sel k) i ≡ some (pout t x (comp (plain g)) y) → get_elem? (sel k) j ≡ some (pinp m u x g p P) → match p y ≡ some σ → InstOk P σ
      → fill (conf_of b s).boxes (upd (λ k. parallel (sel k)) k (parallel (set (set (sel k) i pnil) j (after m u x g p P σ)))) ≋ v.next → Completed b s tau (joint t u) R
  meeting t u R v k i j x g y m p P σ ne o h f ok to = go (eqb k 0) refl
    where
      At : ℕ → Type 0
      At z = get_elem? (sel z) i ≡ some (pout t x (comp (plain g)) y) → get_elem? (sel z) j ≡ some (pinp m u x g p P)
          → fill (conf_of b s).boxes (upd (λ k. parallel (sel k)) z (parallel (set (set (sel z) i pnil) j (after m u x g p P σ)))) ≋ v.next → Completed b s tau (joint t u) R

      go : (c : Bool) → eqb k 0 ≡ c → Completed b s tau (joint t u) R
      go true q = subst At (sym (eqb-true k 0 q)) (λ o h to. complete_forward b s e R v i j x g y m p P σ ne o h f ok to) o h to
      go false q = complete_meeting b s e v k i j x g y m p P σ ne o h f ok to (eqb-false k 0 q)

  by_move : {N R : Proc Mark []} {w : Participants Mark} → Move (All b s) (conf_of b s).boxes sel (wf_all b s e) (atoms_at (conf_of b s).items (items_atoms ids b s e)) (fn_sel b s e) N tau w →
      (v : Inv b s R tau w) → v.next ≡ N → Completed b s tau w R
  by_move {R = R} (meets {t = t} {u = z} k i j x g y m p P σ ne o h f ok eq) v q = meeting t z R v k i j x g y m p P σ ne o h f ok (to_next eq q)
  by_move (rising c i x u has get eq) v q = complete_rising b s e v c i x u has get (to_next eq q)
  by_move (descending c i x u has get eq) v q = complete_descending b s e c v i x u has get (to_next eq q)

  complete_silent : {w : Participants Mark} {R : Proc Mark []} → Trans (known_all s) (process (conf_of b s)) tau w R → Completed b s tau w R
  complete_silent {w} {R} d = let t = transitions b s e R d in by_move t.1 t.0 refl

  by_label : (l : Label) (w : Participants Mark) (R : Proc Mark []) → Trans (known_all s) (process (conf_of b s)) l w R → Written l → Completed b s l w R
  by_label tau w R d wr = complete_silent d
  by_label (send x o v) w R d wr = complete_out b s e x o v R d
  by_label (recv x o v) w R d wr = complete_in b s e x o v R wr d

-- FEWER NAMES BROUGHT. A transition where fewer outside names are known is one where all are, but for the names that an output frees: it
-- may have freed a name as one of those, and is renamed then

abbrev pub is_send : Label → Bool
is_send tau = false
is_send (send x o v) = true
is_send (recv x o v) = false

module _ (f : ℕ → ℕ) where
  renamed_is : (l : Label) → renamed l f ≡ lren l f
  renamed_is tau = refl
  renamed_is (send x o v) = refl
  renamed_is (recv x o v) = refl

  -- an input keeps its names; of an output, a step asks for none
  asks_there : (l : Label) → (IsRecv l → lren l f ≡ l) → {k : Step} → Asks k l → Asks k (lren l f)
  asks_there tau h a = a
  asks_there (send x o v) h (asks_out p) = asks_out p
  asks_there (recv x o v) h {k} a = subst (Asks k) (sym (h tt)) a

  asks_back : (l : Label) → (IsRecv l → lren l f ≡ l) → {k : Step} → Asks k (lren l f) → Asks k l
  asks_back tau h a = a
  asks_back (send x o v) h (asks_out p) = asks_out p
  asks_back (recv x o v) h {k} a = subst (Asks k) (h tt) a

  written_there : (l : Label) → (IsRecv l → lren l f ≡ l) → Written l → Written (lren l f)
  written_there tau h w = w
  written_there (send x o v) h w = w
  written_there (recv x o v) h w = subst Written (sym (h tt)) w

  -- what excuses an output excuses any: its limit
  excused_send : {b : Composition} {s : State} {k : Step} {l : Label} {n : ℕ} → Excused b s k l n → is_send l ≡ true → (l' : Label) → Excused b s k l' n
  excused_send (by_11_long p h) q l' = absurd (false≢true q)
  excused_send (by_11_name p h) q l' = absurd (false≢true q)
  excused_send (by_12 p h) q l' = absurd (false≢true q)
  excused_send (by_16 p i j t m u) q l' = absurd (false≢true q)
  excused_send (by_17 h) q l' = by_17 h

  excused_back : {b : Composition} {s : State} {k : Step} {n : ℕ} (l : Label) → (IsRecv l → lren l f ≡ l) → Excused b s k (lren l f) n → Excused b s k l n
  excused_back tau h x = x
  excused_back (send x o v) h y = excused_send y refl (send x o v)
  excused_back {b} {s} {k} {n} (recv x o v) h y = subst (λ (l : Label). Excused b s k l n) (h tt) y

module _ (b : Composition) (s : State) (e : ready b s ≡ true) (X : List ℕ) (h : every is_outside X ≡ true) (l : Label) (w : Participants Mark) (R : Proc Mark [])
    (d : Freed (known_of X s) outside_names (process (conf_of b s)) l w R) where
  abbrev f : ℕ → ℕ
  f = d.perm.to

  -- with all of them known
  there : Trans (known_all s) (process (conf_of b s)) (lren l d.perm.to) w (ren {r = []} R d.perm.to)
  there = step_members d.step (known_all s) (known_more X s h)

  fixed : IsRecv l → lren l d.perm.to ≡ l
  fixed r = lren_fix l d.perm.to (d.heard r)

  -- the one renaming, then the other
  met_back : {k : Step} → Met (known_all s) b s (lren l d.perm.to) (ren {r = []} R d.perm.to) k → Met (known_of X s) b s l R k
  met_back {k} m = record {
    names = record {
      to = λ z. m.names.to (d.perm.to z);
      back = λ z. d.perm.back (m.names.back z);
      to_back = λ z. ap m.names.to (d.perm.to_back (m.names.back z)) ∙ m.names.to_back z;
      back_to = λ z. ap d.perm.back (m.names.back_to (d.perm.to z)) ∙ d.perm.back_to z;
      keeps = λ z i. ap m.names.to (d.keeps z i) ∙ m.names.keeps z (known_fewer X s h z i);
    };
    label = subst (Says (wrapper_of b) (step b s k).answer)
        (renamed_is m.names.to (lren l f) ∙ lren_lren l f m.names.to ∙ sym (renamed_is (λ z. m.names.to (d.perm.to z)) l)) m.label;
    side = m.side;
    target = subst (λ (P : Proc Mark []). plainly P ≋ process_of b (step b s k).after) (ren_ren {q = []} [] R f m.names.to) m.target;
  }

  complete_by : Written l → ((k : Step) × At (wrapper_of b) k w × Asks k l)
      × ((k : Step) → At (wrapper_of b) k w → Asks k l → Met (known_of X s) b s l R k ⊎ ((n : ℕ) × ((step b s k).answer ≡ refusal n k.side) × Excused b s k l n))
  complete_by wr =
      let c = by_label b s e (lren l f) w (ren {r = []} R f) there (written_there f l fixed wr) in (
        (c.0.0, c.0.1, asks_back f l fixed c.0.2),
        λ k a ask. ⊎_elim (λ m. inl (met_back m)) (λ r. inr (r.0, r.1, excused_back f l fixed r.2)) (c.1 k a (asks_there f l fixed ask)),
      )

pub complete : Complete
unfolding Complete
complete b s X l w R e h d wr = complete_by b s e X h l w R (more_names outside_names d) wr
