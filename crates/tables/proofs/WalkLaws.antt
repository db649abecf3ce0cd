-- What a walk over node numbers may rest on: its calls, and a function of terms at a node by the node's kind.
use mathlib.Core.Path.{◌≡◌, refl, sym, ap, subst, ◌∙◌}
use mathlib.Core.List.{List}
use mathlib.Core.Logic.{◌⊎◌, inl, inr}
use Prim.Native.Nat.{ℕ, zero, suc, ◌+◌, ◌-◌, ◌*◌, ◌<◌, ◌≤◌}
use native.Mathlib.Omega.{arith}
use lib.ListN.{get_or}
use borrow.Author.Tests.{ne_eqb}
use lib.Dec.{eqb}
use denote.Enum.Bare.{sameb}
use Rattle.model.specs.Table.{Table, count, field, Term, build, term}
use Rattle.model.proofs.Basics.Terms.{Child, left, right, in_box, in_new, in_body, term_at_lem}
use Rattle.tables.specs.declared.nodes.Node.{Node}
use Rattle.tables.specs.declared.nodes.Kind.{Kind}
use Rattle.tables.specs.declared.nodes.Kind.TheVariants.{Nil, Par, Box, New, Out, In, Rep}
use Rattle.tables.specs.contracts.nodes.Kind.{the_type}
use Rattle.tables.specs.Nodes.{table, NodeIs, KindIs}
use Rattle.tables.specs.Scope.{Walks}

-- THE ARMS OF SEVERAL KINDS, and what they say of the word
pub an_input : {w : ℕ} {k : Kind} → KindIs w k → (k ≡ In) ⊎ (k ≡ Rep) → 5 ≤ w
an_input {w} {k} h (inl e) = let g : KindIs w In = subst (KindIs w) e h in g.0
an_input {w} {k} h (inr e) = let g : w ≡ 6 = subst (KindIs w) e h in omega arith

pub a_leaf : {w : ℕ} {k : Kind} → KindIs w k → (k ≡ Nil) ⊎ (k ≡ Out) → (w ≡ 0) ⊎ (w ≡ 4)
a_leaf {w} {k} h (inl e) = inl (subst (KindIs w) e h)
a_leaf {w} {k} h (inr e) = inr (subst (KindIs w) e h)

pub a_particle : {w : ℕ} {k : Kind} → KindIs w k → (k ≡ Out) ⊎ ((k ≡ In) ⊎ (k ≡ Rep)) → 4 ≤ w
a_particle {w} {k} h (inl e) = let g : w ≡ 4 = subst (KindIs w) e h in omega arith
a_particle {w} {k} h (inr o) = omega (arith, an_input h o)

pub no_output : {w : ℕ} {k : Kind} → KindIs w k → (k ≡ Nil) ⊎ ((k ≡ In) ⊎ (k ≡ Rep)) → (w ≡ 0) ⊎ (5 ≤ w)
no_output {w} {k} h (inl e) = inl (subst (KindIs w) e h)
no_output {w} {k} h (inr o) = inr (an_input h o)

pub no_names : {w : ℕ} {k : Kind} → KindIs w k → (k ≡ Nil) ⊎ ((k ≡ Par) ⊎ ((k ≡ Box) ⊎ (k ≡ Out))) → (w ≡ 3 → ⊥) × (w < 5)
no_names {w} {k} h (inl e) = let g : w ≡ 0 = subst (KindIs w) e h in (λ q. omega arith, omega arith)
no_names {w} {k} h (inr (inl e)) = let g : w ≡ 1 = subst (KindIs w) e h in (λ q. omega arith, omega arith)
no_names {w} {k} h (inr (inr (inl e))) = let g : w ≡ 2 = subst (KindIs w) e h in (λ q. omega arith, omega arith)
no_names {w} {k} h (inr (inr (inr e))) = let g : w ≡ 4 = subst (KindIs w) e h in (λ q. omega arith, omega arith)

-- a comparison with the kind of a replicated input is that of the word with 6
pub same_rep : (w : ℕ) (k : Kind) → KindIs w k → sameb the_type k Rep ≡ eqb w 6
same_rep w Nil h = rw h
same_rep w Par h = rw h
same_rep w Box h = rw h
same_rep w New h = rw h
same_rep w Out h = rw h
same_rep w In h = sym (ne_eqb w 6 h.1)
same_rep w Rep h = rw h

pub body : (t : Table) (n κ : ℕ) → 5 ≤ κ → Child t n κ (field t n 4)
body t n zero h = absurd (omega arith)
body t n (suc zero) h = absurd (omega arith)
body t n (suc (suc zero)) h = absurd (omega arith)
body t n (suc (suc (suc zero))) h = absurd (omega arith)
body t n (suc (suc (suc (suc zero)))) h = absurd (omega arith)
body t n (suc (suc (suc (suc (suc e))))) h = in_body

-- THE CALLS OF A WALK at a node that was read: the child is above, the measure falls, and what the walk is given holds there
module _ (ns pool : List ℕ) (n : ℕ) (w : Walks (table ns pool) n) (x : Node) (i : NodeIs ns n x) (T : ℕ) (e : count (table ns pool) - n ≡ T) where
  go_on : (m κ : ℕ) → x.word ≡ κ → Child (table ns pool) n κ m → (count (table ns pool) - m < T) × Walks (table ns pool) m
  go_on m κ f c =
      let k : get_or ns (5 * n + 0) 0 ≡ κ = sym i.k ∙ f in
      let a = w.tree n m w.inside (rw k c) in
      (omega (arith, a.0, w.inside, a.1), record { tree = w.tree; inside = a.1 })

  pub on_left : x.word ≡ 1 → (count (table ns pool) - x.a < T) × Walks (table ns pool) x.a
  on_left f = rw i.f1 (go_on _ 1 f left)

  pub on_right : x.word ≡ 1 → (count (table ns pool) - x.b < T) × Walks (table ns pool) x.b
  on_right f = rw i.f2 (go_on _ 1 f right)

  pub on_box : x.word ≡ 2 → (count (table ns pool) - x.b < T) × Walks (table ns pool) x.b
  on_box f = rw i.f2 (go_on _ 2 f in_box)

  pub on_new : x.word ≡ 3 → (count (table ns pool) - x.b < T) × Walks (table ns pool) x.b
  on_new f = rw i.f2 (go_on _ 3 f in_new)

  pub on_body : 5 ≤ x.word → (count (table ns pool) - x.d < T) × Walks (table ns pool) x.d
  on_body h = rw i.f4 (go_on _ x.word refl (body (table ns pool) n x.word h))

-- a function of processes at a node, by the node's kind: `f` of the process built of the children's
module _ {A : Type 0} (f : Term → A) (ns pool : List ℕ) (n : ℕ) (w : Walks (table ns pool) n) (x : Node) (i : NodeIs ns n x) where
  abbrev t : Table
  t = table ns pool

  at_n : f (term t n) ≡ f (build x.word t n (term t))
  at_n = ap f (term_at_lem t w.tree n w.inside) ∙ ap (λ (k : ℕ). f (build k t n (term t))) (sym i.k)

  pub at_kind : (κ : ℕ) → x.word ≡ κ → f (term t n) ≡ f (build κ t n (term t))
  at_kind κ e = at_n ∙ ap (λ (k : ℕ). f (build k t n (term t))) e

  -- the same for every kind that is an input
  pub at_input : (a : A) → ((e : ℕ) → f (build (suc (suc (suc (suc (suc e))))) t n (term t)) ≡ a) → 5 ≤ x.word → f (term t n) ≡ a
  at_input a g h = at_n ∙ go x.word h
    where
      go : (κ : ℕ) → 5 ≤ κ → f (build κ t n (term t)) ≡ a
      go zero h = absurd (omega arith)
      go (suc zero) h = absurd (omega arith)
      go (suc (suc zero)) h = absurd (omega arith)
      go (suc (suc (suc zero))) h = absurd (omega arith)
      go (suc (suc (suc (suc zero)))) h = absurd (omega arith)
      go (suc (suc (suc (suc (suc e))))) h = g e

  -- an output or nil, where both give the same
  pub at_leaf : (a : A) → f (build 0 t n (term t)) ≡ a → f (build 4 t n (term t)) ≡ a → (x.word ≡ 0) ⊎ (x.word ≡ 4) → f (term t n) ≡ a
  at_leaf a p q (inl e) = at_kind 0 e ∙ p
  at_leaf a p q (inr e) = at_kind 4 e ∙ q
