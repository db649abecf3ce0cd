-- What the term at a node unfolds to, by the node's kind: one law for each way that the code goes.
use mathlib.Core.Path.{◌≡◌, refl, sym, subst}
use mathlib.Core.List.{List}
use Prim.Native.Nat.{ℕ, zero, suc, ◌+◌, ◌-◌, ◌<◌, ◌≤◌}
use native.Mathlib.Omega.{arith}
use Rattle.model.specs.Table.{Table, count, Term, build, term}
use Rattle.tables.specs.declared.nodes.Node.{Node}
use Rattle.tables.specs.Nodes.{table, NodeIs}
use Rattle.tables.specs.Scope.{Walks}
use Rattle.tables.specs.Checks.{Passes}
use Rattle.tables.proofs.WalkLaws.{at_kind, on_left, on_right, on_box, on_new}
use Rattle.scopes.specs.declared.unfolded.Unfolded.{Unfolded}
use Rattle.scopes.specs.Unfolded.{sum_of, Few, UnfoldsTo}
use Rattle.scopes.proofs.ScopeBound.{walks_at}
use Rattle.scopes.proofs.TermSize.{unfolds_few}

abbrev three : ℕ → ℕ → ℕ → Unfolded
three p b n = record { particles = p; boxes = b; names = n }

module _ (ns pool : List ℕ) (n : ℕ) (o : Passes (table ns pool) × (n < count (table ns pool))) (x : Node) (i : NodeIs ns n x) where
  abbrev t : Table
  t = table ns pool

  walks : Walks t n
  walks = walks_at t o.0 n o.1

  -- THE CALLS: the measure falls, and what the walk asks holds at the child
  module _ (T : ℕ) (e : count t - n ≡ T) where
    abbrev Below : ℕ → Type 0
    Below m = (count t - m < T) × (Passes t × (m < count t))

    below : (m : ℕ) → (count t - m < T) × Walks t m → Below m
    below m h = (h.0, (o.0, h.1.inside))

    pub to_left : x.word ≡ 1 → Below x.a
    to_left k = below x.a (on_left ns pool n walks x i T e k)

    pub to_right : x.word ≡ 1 → Below x.b
    to_right k = below x.b (on_right ns pool n walks x i T e k)

    pub to_box_lem : x.word ≡ 2 → Below x.b
    to_box_lem k = below x.b (on_box ns pool n walks x i T e k)

    pub to_new : x.word ≡ 3 → Below x.b
    to_new k = below x.b (on_new ns pool n walks x i T e k)

  -- THE ANSWERS
  abbrev Is : ℕ → Unfolded → Type 0
  Is m r = Few r × UnfoldsTo (term t m) r

  whole : (κ : ℕ) → x.word ≡ κ → (r : Unfolded) → UnfoldsTo (build κ t n (term t)) r → Is n r
  whole κ e r u =
      let v = subst (λ (a : Term). UnfoldsTo a r) (sym (at_kind (λ a. a) ns pool n walks x i κ e)) u in
      let few = unfolds_few t o.0 n o.1 in
      (record { particles = omega (arith, v.particles); boxes = omega (arith, v.boxes); names = omega (arith, v.names) }, v)

  same : (q r : Unfolded) → q ≡ r → Is n r → Is n q
  same q r z h = subst (Is n) (sym z) h

  -- the answer at a child is that at the node that a field names
  child : (m k : ℕ) (a : Unfolded) → m ≡ k → Is m a → UnfoldsTo (term t k) a
  child m k a e h = subst (λ (j : ℕ). UnfoldsTo (term t j) a) e h.1

  pub par_is : (a b q : Unfolded) → x.word ≡ 1 → Is x.a a → Is x.b b → q ≡ sum_of a b → Is n q
  unfolding build
  par_is a b q e ha hb z =
      let u = child x.a _ a i.f1 ha in
      let v = child x.b _ b i.f2 hb in
      same q (sum_of a b) z
      (whole 1 e (sum_of a b) (record { particles = omega (arith, u.particles, v.particles); boxes = omega (arith, u.boxes, v.boxes); names = omega (arith, u.names, v.names) }))

  pub box_is : (a : Unfolded) → x.word ≡ 2 → Is x.b a → Is n (three a.particles (a.boxes + 1) a.names)
  unfolding build
  box_is a e h =
      let u = child x.b _ a i.f2 h in
      whole 2 e (three a.particles (a.boxes + 1) a.names) (record { particles = u.particles; boxes = omega (arith, u.boxes); names = u.names })

  pub new_is : (a : Unfolded) → x.word ≡ 3 → Is x.b a → Is n (three a.particles a.boxes (a.names + 1))
  unfolding build
  new_is a e h =
      let u = child x.b _ a i.f2 h in
      whole 3 e (three a.particles a.boxes (a.names + 1)) (record { particles = u.particles; boxes = u.boxes; names = omega (arith, u.names) })

  pub nil_is : x.word ≡ 0 → Is n (three 0 0 0)
  unfolding build
  nil_is e = whole 0 e (three 0 0 0) (record { particles = refl; boxes = refl; names = refl })

  -- an output or an input is a particle
  pub last_is : 4 ≤ x.word → Is n (three 1 0 0)
  unfolding build
  last_is h = go x.word refl h
    where
      go : (κ : ℕ) → x.word ≡ κ → 4 ≤ κ → Is n (three 1 0 0)
      go zero e h = absurd (omega arith)
      go (suc zero) e h = absurd (omega arith)
      go (suc (suc zero)) e h = absurd (omega arith)
      go (suc (suc (suc zero))) e h = absurd (omega arith)
      go (suc (suc (suc (suc zero)))) e h = whole 4 e _ (record { particles = refl; boxes = refl; names = refl })
      go (suc (suc (suc (suc (suc k))))) e h = whole _ e (three 1 0 0) (record { particles = refl; boxes = refl; names = refl })
