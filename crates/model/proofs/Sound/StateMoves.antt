-- A move among the items, as a transition of the whole state's process.
use mathlib.Core.Path.{◌≡◌, refl, sym, ap, ap₂, ◌∙◌, subst, subst₂}
use mathlib.Core.Bool.{true}
use mathlib.Core.List.{List, [], ◌∷◌}
use Prim.Native.Nat.{ℕ}
use Rattle.calculus.specs.Syntax.{Val, Proc, plain}
use Rattle.calculus.specs.Syntax.{parent as iparent}
use Rattle.calculus.specs.Congruence.{◌≋◌}
use Rattle.calculus.specs.Transitions.{Fn⊆, Out∉, names, lnames, Label, tau, send, Participants, restrict}
use Rattle.calculus.specs.Transitions.{Step as Trans}
use Rattle.calculus.specs.Tree.{Place, fill}
use Rattle.calculus.specs.Tree.{Item}
use Rattle.calculus.specs.Tree.{process}
use Rattle.model.specs.Side.{State}
use Rattle.model.specs.Load.{Composition}
use Rattle.model.specs.WellFormed.{ready}
use Rattle.model.specs.Process.{Mark, conf_as, conf_of, new_of}
use Rattle.model.specs.Agreement.{plainly}
use Rattle.calculus.proofs.Trees.{Wf}
use Rattle.calculus.proofs.Moves.{Rooted}
use Rattle.calculus.proofs.Marks.{remark_news}
use Rattle.calculus.proofs.Extrusion.{in_news}
use Rattle.calculus.proofs.TreeMoves.{fill_fn}
use Rattle.calculus.proofs.Restriction.{Good, Eachn, under_news, send_news, minus}
use Rattle.calculus.proofs.Bags.{at, Bag, bag_fill, ritems, rplaces, remark_bag}
use Rattle.model.proofs.Processes.KnownNames.{known_all, All, good}
use Rattle.model.proofs.Processes.ItemFacts.{each_at}
use Rattle.model.proofs.Processes.StateTree.{few, wf_boxes_lem, rooted_boxes, items_each}
use Rattle.model.proofs.Sound.ItemMoves.{ids, forget, Moves}

pub record Goes (b : Composition) (s s' : State) (l : Label) (w : Participants Mark) : Type 0 where
  pub R : Proc Mark []
  pub step : Trans (known_all s) (process (conf_of b s)) l w R
  pub to : plainly R ≋ plainly (process (conf_of b s'))

pub no_names : (N : List ℕ) → Eachn (Out∉ []) N
no_names [] = tt
no_names (x ∷ N) = (refl, no_names N)

-- the process with another list of items, marks forgotten
plain_items : (N : List ℕ) (bs : List (Place Mark)) (I : List (Item Mark)) → plainly (restrict N (fill bs (at I))) ≡ restrict N (fill (rplaces forget bs) (at (ritems forget I)))
plain_items N bs I = remark_news forget N (fill bs (at I)) ∙ ap (restrict N) (remark_bag forget bs I)

pub same_bags : (N : List ℕ) (bs : List (Place Mark)) (I J : List (Item Mark)) → Bag (ritems forget I) (ritems forget J) → plainly (restrict N (fill bs (at I))) ≋ plainly (restrict N (fill bs (at J)))
same_bags N bs I J h = subst₂ (λ (P Q : Proc (Unit {0}) []). P ≋ Q) (sym (plain_items N bs I)) (sym (plain_items N bs J)) (in_news N (bag_fill (rplaces forget bs) h))

module _ (b : Composition) (s : State) (e : ready b s ≡ true) where
  pub wf_all : Wf (All b s) (conf_of b s).boxes
  wf_all = wf_boxes_lem b s e ids

  pub rooted_all : Rooted (conf_of b s).boxes
  rooted_all = rooted_boxes b s e ids

  pub fn_all : Fn⊆ (fill (conf_of b s).boxes (at (conf_of b s).items)) (All b s)
  fn_all = fill_fn (All b s) (conf_of b s).boxes (at (conf_of b s).items) wf_all (each_at (All b s) (conf_of b s).items (items_each b s e ids))

  pub good_all : Good (new_of b s) (known_all s)
  good_all = good b s (few b s e)

  pub is_process : (s' : State) → process (conf_of b s') ≡ restrict (new_of b s') (fill (conf_of b s').boxes (at (conf_of b s').items))
  unfolding process conf_as
  is_process s' = refl

  pub goes : {l : Label} {w : Participants Mark} (s' : State) → Eachn (Out∉ (lnames l)) (new_of b s) → new_of b s' ≡ new_of b s → (conf_of b s').boxes ≡ (conf_of b s).boxes
      → Moves (All b s) (conf_of b s).boxes (conf_of b s).items l w (ritems forget (conf_of b s').items) → Goes b s s' l w
  goes {l} {w} s' out en eb m = record {
    R = restrict (new_of b s) (fill (conf_of b s).boxes (at m.J));
    step = subst (λ (P : Proc Mark []). Trans (known_all s) P l w (restrict (new_of b s) (fill (conf_of b s).boxes (at m.J)))) (sym (is_process s)) (under_news (new_of b s) (known_all s) good_all fn_all out m.step);
    to = subst (λ (P : Proc Mark []). plainly (restrict (new_of b s) (fill (conf_of b s).boxes (at m.J))) ≋ plainly P)
        (ap₂ (λ (N : List ℕ) (B : List (Place Mark)). restrict N (fill B (at (conf_of b s').items))) (sym en) (sym eb) ∙ sym (is_process s'))
        (same_bags (new_of b s) (conf_of b s).boxes m.J (conf_of b s').items m.bag);
  }

  pub goes_silent : {w : Participants Mark} (s' : State) → new_of b s' ≡ new_of b s → (conf_of b s').boxes ≡ (conf_of b s).boxes
      → Moves (All b s) (conf_of b s).boxes (conf_of b s).items tau w (ritems forget (conf_of b s').items) → Goes b s s' tau w
  goes_silent s' en eb m = goes s' (no_names (new_of b s)) en eb m

  -- an output with new names among its own: they are new no more
  pub goes_out : {y : ℕ} {v : Val ℕ} {w : Participants Mark} (s' : State) → new_of b s' ≡ minus (new_of b s) (y ∷ names v) → (conf_of b s').boxes ≡ (conf_of b s).boxes
      → Moves (All b s) (conf_of b s).boxes (conf_of b s).items (send y (plain iparent) v) w (ritems forget (conf_of b s').items) → Goes b s s' (send y (plain iparent) v) w
  goes_out {y} {v} {w} s' en eb m = record {
    R = restrict (minus (new_of b s) (y ∷ names v)) (fill (conf_of b s).boxes (at m.J));
    step = subst (λ (P : Proc Mark []). Trans (known_all s) P (send y (plain iparent) v) w (restrict (minus (new_of b s) (y ∷ names v)) (fill (conf_of b s).boxes (at m.J)))) (sym (is_process s))
        (send_news (new_of b s) (known_all s) good_all fn_all m.step);
    to = subst (λ (P : Proc Mark []). plainly (restrict (minus (new_of b s) (y ∷ names v)) (fill (conf_of b s).boxes (at m.J))) ≋ plainly P)
        (ap₂ (λ (N : List ℕ) (B : List (Place Mark)). restrict N (fill B (at (conf_of b s').items))) (sym en) (sym eb) ∙ sym (is_process s'))
        (same_bags (minus (new_of b s) (y ∷ names v)) (conf_of b s).boxes m.J (conf_of b s').items m.bag);
  }
