-- The term at a node that is an input: its parts, its body's node, and the names in force there.
use mathlib.Core.Path.{◌≡◌, refl, sym, ap, ◌∙◌}
use mathlib.Core.Bool.{Bool, true, false}
use mathlib.Core.List.{List, ◌++◌}
use Prim.Native.Nat.{ℕ, zero, suc, ◌+◌, ◌<◌, ◌≤◌}
use native.Mathlib.Omega.{arith}
use borrow.Author.Tests.{le-leb, eqb-true, eqb-false, eq-eqb, ne_eqb}
use lib.Dec.{eqb}
use lib.ListN.{length, length-append}
use Rattle.model.specs.Values.{binders}
use Rattle.model.specs.Table.{Table, count, kind, field, bound, scope, inp, build, term}
use Rattle.model.proofs.Basics.Terms.{term_at_lem}
use Rattle.model.proofs.Basics.Checked.{is_tree, scope_child}
use Rattle.tables.specs.Checks.{Passes}
use Rattle.tables.proofs.WalkLaws.{body}
use Rattle.scopes.proofs.ScopeBound.{passes_checked}
use Rattle.environments.specs.Matching.{pattern_at}
use Rattle.unfolding.proofs.Standing.{few}

same_kind : (e : ℕ) → eqb e 1 ≡ eqb (suc (suc (suc (suc (suc e))))) 6
same_kind e = go (eqb e 1) refl
  where
    go : (b : Bool) → eqb e 1 ≡ b → b ≡ eqb (suc (suc (suc (suc (suc e))))) 6
    go true q = let z = eqb-true e 1 q in sym (eq-eqb (suc (suc (suc (suc (suc e))))) 6 (omega arith))
    go false q = sym (ne_eqb (suc (suc (suc (suc (suc e))))) 6 (λ z. eqb-false e 1 q (omega arith)))

module _ (t : Table) (ps : Passes t) (n : ℕ) (l : n < count t) (h : 5 ≤ kind t n) where
  abbrev pattern : List ℕ
  pattern = pattern_at t.pool (field t n 3)

  built : (κ : ℕ) → 5 ≤ κ → build κ t n (term t) ≡ inp n (eqb κ 6) (field t n 1) (field t n 2) pattern (term t (field t n 4))
  unfolding build
  built zero g = absurd (omega arith)
  built (suc zero) g = absurd (omega arith)
  built (suc (suc zero)) g = absurd (omega arith)
  built (suc (suc (suc zero))) g = absurd (omega arith)
  built (suc (suc (suc (suc zero)))) g = absurd (omega arith)
  built (suc (suc (suc (suc (suc e))))) g = ap (λ (b : Bool). inp n b (field t n 1) (field t n 2) pattern (term t (field t n 4))) (same_kind e)

  pub input_term : term t n ≡ inp n (eqb (kind t n) 6) (field t n 1) (field t n 2) pattern (term t (field t n 4))
  input_term = term_at_lem t (is_tree t (passes_checked t ps)) n l ∙ built (kind t n) h

  pub body_inside : field t n 4 < count t
  body_inside = (is_tree t (passes_checked t ps) n (field t n 4) l (body t n (kind t n) h)).1

  bound_is : bound t n ≡ binders pattern
  bound_is = rw (ne_eqb (kind t n) 3 (λ q. omega arith), le-leb 5 (kind t n) h)

  body_scope : scope t (field t n 4) ≡ scope t n ++ binders pattern
  body_scope = scope_child t (passes_checked t ps) n (field t n 4) l (body t n (kind t n) h) ∙ ap (λ (x : List ℕ). scope t n ++ x) bound_is

  pub body_names : length (scope t (field t n 4)) ≡ length (scope t n) + length (binders pattern)
  body_names = ap length body_scope ∙ length-append (scope t n) (binders pattern)

  pub names_few : length (scope t n) + length (binders pattern) ≤ 8
  names_few = omega (arith, few t ps (field t n 4) body_inside, body_names)
