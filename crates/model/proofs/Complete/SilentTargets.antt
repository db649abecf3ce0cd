-- What the cases of a silent transition share: a side's step by its result, refusals too, and where a silent transition leads.
use mathlib.Core.Path.{◌≡◌, refl, sym, ap, subst, subst₂}
use mathlib.Core.Bool.{true}
use mathlib.Core.List.{List, [], ◌∷◌}
use Prim.Native.Nat.{ℕ}
use Rattle.calculus.specs.Syntax.{Proc, ren}
use Rattle.calculus.specs.Congruence.{◌≋◌, symm, trans}
use Rattle.calculus.specs.Transitions.{tau, Participants, restrict}
use Rattle.calculus.specs.Tree.{fill}
use Rattle.calculus.specs.Tree.{Item}
use Rattle.calculus.specs.Tree.{process}
use Rattle.model.specs.Side.{State}
use Rattle.model.specs.Load.{Composition}
use Rattle.model.specs.WellFormed.{ready}
use Rattle.model.specs.Process.{Mark, conf_of, new_of}
use Rattle.model.specs.Agreement.{plainly}
use Rattle.calculus.proofs.Extrusion.{in_news}
use Rattle.calculus.proofs.Marks.{remark_cong}
use Rattle.calculus.proofs.Restriction.{RestrictInv, minus}
use Rattle.calculus.proofs.Bags.{at, Bag, bag_fill, ritems, rplaces}
use Rattle.model.proofs.Sound.ItemMoves.{forget}
use Rattle.model.proofs.Sound.MeetTargets.{plain_items, plain_process}
use Rattle.model.proofs.Complete.StateInversion.{target_of}
use Rattle.model.proofs.Processes.KnownNames.{known_all}

module _ (b : Composition) (s : State) (e : ready b s ≡ true) where
  minus_nil : (N : List ℕ) → minus N [] ≡ N
  minus_nil [] = refl
  minus_nil (x ∷ N) = ap (λ (r : List ℕ). x ∷ r) (minus_nil N)

  -- a silent move among the items leads, renamed, where its items lead
  pub silent_leads : {w : Participants Mark} {R : Proc Mark []} (v : RestrictInv (new_of b s) (known_all s) (fill (conf_of b s).boxes (at (conf_of b s).items)) R tau w) (J : List (Item Mark)) → fill (conf_of b s).boxes (at J) ≋ v.next
      → (Z : List (Item (Unit {0}))) → Bag (ritems forget J) Z → (s' : State)
      → restrict (new_of b s) (fill (rplaces forget (conf_of b s).boxes) (at Z)) ≋ restrict (new_of b s') (fill (rplaces forget (conf_of b s').boxes) (at (ritems forget (conf_of b s').items)))
      → plainly (ren {r = []} R v.perm.to) ≋ plainly (process (conf_of b s'))
  silent_leads {R = R} v J n Z h s' c =
      trans (remark_cong forget (target_of v)) (trans (remark_cong forget (subst (λ (N : List ℕ). restrict N v.next ≋ restrict (new_of b s) (fill (conf_of b s).boxes (at J))) (sym (minus_nil (new_of b s))) (in_news (new_of b s) (symm n))))
      (subst₂ (λ (P Q : Proc (Unit {0}) []). P ≋ Q) (sym (plain_items b s J)) (sym (plain_process b s')) (trans (in_news (new_of b s) (bag_fill (rplaces forget (conf_of b s).boxes) h)) c)))
