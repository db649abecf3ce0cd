-- The names in force at a node of a table that passes the checks: at most 8, and a child has those of its parent and what the parent binds.
use mathlib.Core.Path.{◌≡◌, refl, ap, ◌∙◌}
use mathlib.Core.List.{List}
use Prim.Native.Nat.{ℕ, ◌+◌, ◌<◌, ◌≤◌}
use native.Mathlib.Omega.{arith}
use lib.ListN.{length, length-append}
use Rattle.model.specs.Table.{Table, count, kind, scope, bound}
use Rattle.model.proofs.Basics.Terms.{Child, left, right, in_box, in_new}
use Rattle.model.proofs.Basics.Checked.{scope_child}
use Rattle.tables.specs.declared.nodes.Node.{Node}
use Rattle.tables.specs.Nodes.{table, NodeIs}
use Rattle.tables.specs.Scope.{Walks}
use Rattle.tables.specs.Checks.{Passes}
use Rattle.tables.proofs.WalkLaws.{on_left, on_right, on_box, on_new}
use Rattle.scopes.proofs.ScopeBound.{scope_few, count_few, no_fault, passes_checked, walks_at}
use Rattle.unfolding.specs.Scoped.{Scoped}

pub few : (t : Table) → Passes t → (n : ℕ) → n < count t → length (scope t n) ≤ 8
few t p = let q = no_fault t p in scope_few t q.0 q.1

pub nodes_few : (t : Table) → Passes t → count t ≤ 256
nodes_few t p = let q = no_fault t p in count_few t q.0 q.1

child_scope : (t : Table) → Passes t → (n m : ℕ) → n < count t → Child t n (kind t n) m → length (scope t m) ≡ length (scope t n) + length (bound t n)
child_scope t p n m l ch = ap length (scope_child t (passes_checked t p) n m l ch) ∙ length-append (scope t n) (bound t n)

-- A WALK BY ONE NODE: at most as many names as are in force
module _ (ns pool : List ℕ) (n k : ℕ) (s : Scoped (table ns pool) n k) (x : Node) (i : NodeIs ns n x) where
  abbrev t : Table
  t = table ns pool

  pub walks : Walks t n
  walks = walks_at t s.passes n s.inside

  down : (m : ℕ) → Child t n (kind t n) m → Walks t m → (j : ℕ) → j ≤ k + length (bound t n) → Scoped t m j
  down m ch w j h = record { passes = s.passes; inside = w.inside; names = omega (arith, child_scope t s.passes n m s.inside ch, s.names) }

  pub scoped_left : x.word ≡ 1 → Scoped t x.a k
  scoped_left e = down x.a (rw (i.f1, ← i.k, e) left) (on_left ns pool n walks x i _ refl e).1 k (omega arith)

  pub scoped_right : x.word ≡ 1 → Scoped t x.b k
  scoped_right e = down x.b (rw (i.f2, ← i.k, e) right) (on_right ns pool n walks x i _ refl e).1 k (omega arith)

  pub scoped_box : x.word ≡ 2 → Scoped t x.b k
  scoped_box e = down x.b (rw (i.f2, ← i.k, e) in_box) (on_box ns pool n walks x i _ refl e).1 k (omega arith)

  one_more : x.word ≡ 3 → length (bound t n) ≡ 1
  one_more e = rw (← i.k, e)

  pub scoped_new : x.word ≡ 3 → Scoped t x.b (k + 1)
  scoped_new e = down x.b (rw (i.f2, ← i.k, e) in_new) (on_new ns pool n walks x i _ refl e).1 (k + 1) (omega (arith, one_more e))

  -- there is room for a new name
  pub new_room : x.word ≡ 3 → k < 8
  new_room e = let q = scoped_new e in omega (arith, few t s.passes x.b q.inside, q.names)
