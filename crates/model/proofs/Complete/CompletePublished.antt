-- Complete for published transitions: each comes from a marked one, which has its place.
use mathlib.Core.Path.{subst}
use mathlib.Core.List.{List, []}
use Prim.Native.Nat.{ℕ}
use mathlib.Core.Logic.{inl, inr, ⊎_elim}
use Rattle.calculus.specs.Syntax.{Proc}
use Rattle.calculus.specs.Congruence.{◌≋◌, symm, trans}
use Rattle.calculus.specs.Transitions.{Label}
use Rattle.calculus.specs.Marks.{Marks, forget}
use Rattle.calculus.specs.Tree.{process}
use Rattle.model.specs.Side.{State}
use Rattle.model.specs.Load.{Composition}
use Rattle.model.specs.Step.{Step, step}
use Rattle.model.specs.Process.{Mark, inert, conf_of, known_of}
use Rattle.model.specs.Agreement.{plainly, Met, Complete}
use Rattle.model.specs.Published.{MetPublished, CompletePublished}
use Rattle.calculus.proofs.Extrusion.{cong_ren}
use Rattle.calculus.proofs.Marks.{marks, remark_ren}
use Rattle.model.proofs.Complete.Complete.{complete}

-- what meets a marked transition meets the published one
met_published : (A : List ℕ) (b : Composition) (s : State) (l : Label) (R : Proc Mark []) (Q : Proc (Unit {0}) []) (k : Step) → plainly R ≋ Q → Met A b s l R k → MetPublished A b s l Q k
met_published A b s l R Q k q m = record {
  names = m.names;
  label = m.label;
  side = m.side;
  target = trans (symm (cong_ren {r = []} q m.names.to)) (subst (λ (P : Proc (Unit {0}) []). P ≋ plainly (process (conf_of b (step b s k).after))) (remark_ren forget {r = []} R m.names.to) m.target);
}

pub complete_published : CompletePublished
unfolding CompletePublished Complete Marks
complete_published b s X l Q e h p wr =
    let (w, R, d, q) = (marks Mark).1 (known_of X s) (process (conf_of b s)) l Q inert p in
    let c = complete b s X l w R e h d wr in
    (w, c.0, λ k a ask. ⊎_elim (λ m. inl (met_published (known_of X s) b s l R Q k q m)) (λ r. inr r) (c.1 k a ask))
