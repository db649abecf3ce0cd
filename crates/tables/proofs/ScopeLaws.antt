-- Check 6 by a walk over node numbers.
use mathlib.Core.Path.{◌≡◌, refl, sym, ap, ap₂, ◌∙◌}
use mathlib.Core.Bool.{Bool, true, false, cond}
use mathlib.Core.List.{List}
use mathlib.Core.Logic.{◌⊎◌}
use Prim.Native.Nat.{ℕ, ◌+◌, ◌<◌, ◌≤◌, min}
use native.Mathlib.Omega.{arith}
use borrow.Author.Tests.{le-leb, lt-leb, lt-ltb, le-ltb, ltb-true, ltb-false}
use lib.Dec.{ltb}
use lib.ListN.{length}
use Rattle.model.specs.Basics.{choose, refuse, done}
use Rattle.model.specs.Table.{Table, build, term}
use Rattle.model.specs.Checks.{over, over_all}
use Rattle.tables.specs.declared.nodes.Node.{Node}
use Rattle.std.specs.Prelude.{Option, Some, None}
use Rattle.std.specs.Bool.{then_some}
use Rattle.tables.specs.Nodes.{table, NodeIs, pattern_names}
use Rattle.tables.specs.Scope.{Walks, node_if_over, over_at, node_of, lower}
use Rattle.tables.specs.Checks.{lowest_of}
use Rattle.tables.proofs.WalkLaws.{at_kind, at_input, at_leaf}

-- A NODE OR NONE
pub node_over : (k n : ℕ) → n < 256 → then_some (ltb 8 k) n ≡ node_of (node_if_over k n)
unfolding node_if_over node_of
node_over k n b = go (ltb 8 k) refl
  where
    go : (p : Bool) → ltb 8 k ≡ p → then_some (ltb 8 k) n ≡ node_of (node_if_over k n)
    go true e = rw (e, lt-leb k 8 (ltb-true 8 k e), lt-ltb n 256 b)
    go false e = rw (e, le-leb k 8 (ltb-false 8 k e))

-- the lower of two nodes is that of the model's lesser number
lower_is : (a b : ℕ) → lower (node_of a) (node_of b) ≡ node_of (min a b)
unfolding node_of
lower_is a b = go (ltb a 256) refl (ltb b 256) refl
  where
    go : (p : Bool) → ltb a 256 ≡ p → (q : Bool) → ltb b 256 ≡ q → lower (node_of a) (node_of b) ≡ node_of (min a b)
    go true e true f = let h : min a b < 256 = omega (arith, ltb-true a 256 e) in rw (e, f, lt-ltb (min a b) 256 h)
    go true e false f = let m : min a b ≡ a = omega (arith, ltb-true a 256 e, ltb-false b 256 f) in rw (m, e, f)
    go false e true f = let m : min a b ≡ b = omega (arith, ltb-false a 256 e, ltb-true b 256 f) in rw (m, e, f)
    go false e false f = let h : 256 ≤ min a b = omega (arith, ltb-false a 256 e, ltb-false b 256 f) in rw (e, f, le-ltb (min a b) 256 h)

-- the same of what was found
pub lower_by : (r p q : Option ℕ) (a b : ℕ) → r ≡ lower p q → p ≡ node_of a → q ≡ node_of b → r ≡ node_of (min a b)
lower_by r p q a b e f g = e ∙ ap₂ lower f g ∙ lower_is a b

-- THE LAWS OF `over_at`, one for each way the code goes
module _ (ns pool : List ℕ) (n k : ℕ) (w : Walks (table ns pool) n) (x : Node) (i : NodeIs ns n x) where
  abbrev t : Table
  t = table ns pool

  pub over_par : x.word ≡ 1 → over_at t n k ≡ min (node_if_over k n) (min (over_at t x.a k) (over_at t x.b k))
  unfolding build over over_at node_if_over
  over_par e = rw (i.f1, i.f2) (at_kind (over k) ns pool n w x i 1 e)

  pub over_box : x.word ≡ 2 → over_at t n k ≡ min (node_if_over k n) (over_at t x.b k)
  unfolding build over over_at node_if_over
  over_box e = rw i.f2 (at_kind (over k) ns pool n w x i 2 e)

  pub over_new : x.word ≡ 3 → over_at t n k ≡ min (node_if_over k n) (over_at t x.b (k + 1))
  unfolding build over over_at node_if_over
  over_new e = rw i.f2 (at_kind (over k) ns pool n w x i 3 e)

  pub over_inp : 5 ≤ x.word → over_at t n k ≡ min (node_if_over k n) (over_at t x.d (k + length (pattern_names pool x.c)))
  unfolding build over over_at node_if_over
  over_inp h = rw (i.f3, i.f4) (at_input (over k) ns pool n w x i _ (λ e. refl) h)

  pub over_leaf : (x.word ≡ 0) ⊎ (x.word ≡ 4) → node_if_over k n ≡ over_at t n k
  unfolding build over over_at node_if_over
  over_leaf o = sym (at_leaf (over k) ns pool n w x i (node_if_over k n) refl refl o)

-- check 6
pub scope_all : (t : Table) (r : Option ℕ) → r ≡ node_of (over_at t 0 0) → lowest_of r ≡ over_all t
unfolding over_at over_all choose node_of
scope_all t r e = ap lowest_of e ∙ go (ltb (over 0 (term t 0)) 256)
  where
    go : (b : Bool) → lowest_of (cond b (Some (over 0 (term t 0))) None) ≡ choose b (done (over 0 (term t 0))) (refuse 0)
    go true = refl
    go false = refl
