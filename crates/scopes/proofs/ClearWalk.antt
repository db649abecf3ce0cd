-- Refusal 15 at a node, by the node's kind: one law for each way that the code goes.
use mathlib.Core.Path.{◌≡◌, refl, sym, ap, ◌∙◌}
use mathlib.Core.Bool.{Bool, true, false, not}
use mathlib.Core.List.{List}
use Prim.Native.Nat.{ℕ, ◌≤◌}
use lib.ListN.{get_or, set}
use Rattle.model.specs.Basics.{◌&◌}
use Rattle.model.specs.Table.{Table, Term, build}
use Rattle.tables.specs.declared.nodes.Node.{Node}
use Rattle.tables.specs.Nodes.{table, NodeIs, pattern_names}
use Rattle.tables.specs.Scope.{Walks}
use Rattle.tables.proofs.WalkLaws.{at_kind, at_input}
use Rattle.scopes.specs.FreeUses.{name_clear, tag_clear, hide, clear_in, clear_at}

and_yes : (a b : Bool) → a ≡ true → a & b ≡ b
unfolding ◌&◌
and_yes a b e = rw e

and_no : (a b : Bool) → a ≡ false → a & b ≡ false
unfolding ◌&◌
and_no a b e = rw e

module _ (ns pool : List ℕ) (n : ℕ) (ts : List Bool) (w : Walks (table ns pool) n) (x : Node) (i : NodeIs ns n x) where
  abbrev t : Table
  t = table ns pool

  abbrev f : Term → Bool
  f a = clear_in a ts

  -- the channel and the tag of an output or an input
  abbrev used : Bool
  used = name_clear ts x.a & tag_clear ts x.b

  clear_par : x.word ≡ 1 → clear_at t n ts ≡ clear_at t x.a ts & clear_at t x.b ts
  unfolding build clear_in clear_at
  clear_par e = rw (i.f1, i.f2) (at_kind f ns pool n w x i 1 e)

  clear_box : x.word ≡ 2 → clear_at t n ts ≡ name_clear ts x.a & clear_at t x.b ts
  unfolding build clear_in clear_at
  clear_box e = rw (i.f1, i.f2) (at_kind f ns pool n w x i 2 e)

  clear_new : x.word ≡ 3 → clear_at t n ts ≡ clear_at t x.b (set ts x.a false)
  unfolding build clear_in clear_at
  clear_new e = rw (i.f1, i.f2) (at_kind f ns pool n w x i 3 e)

  clear_out : x.word ≡ 4 → clear_at t n ts ≡ used
  unfolding build clear_in clear_at
  clear_out e = rw (i.f1, i.f2) (at_kind f ns pool n w x i 4 e)

  clear_inp : 5 ≤ x.word → clear_at t n ts ≡ used & clear_at t x.d (hide ts (pattern_names pool x.c))
  unfolding build clear_in clear_at
  clear_inp h = rw (i.f1, i.f2, i.f3, i.f4) (at_input f ns pool n w x i _ (λ e. refl) h)

  pub left_yes : (p q : Bool) → x.word ≡ 1 → p ≡ clear_at t x.a ts → p ≡ true → q ≡ clear_at t x.b ts → q ≡ clear_at t n ts
  left_yes p q e k z k' = k' ∙ sym (clear_par e ∙ and_yes _ _ (sym k ∙ z))

  pub left_no : (p : Bool) → x.word ≡ 1 → p ≡ clear_at t x.a ts → p ≡ false → false ≡ clear_at t n ts
  left_no p e k z = sym (clear_par e ∙ and_no _ _ (sym k ∙ z))

  pub box_no : (b : Bool) → x.word ≡ 2 → b ≡ get_or ts x.a false → b ≡ true → false ≡ clear_at t n ts
  box_no b e g z = sym (clear_box e ∙ and_no _ _ (ap not (sym g ∙ z)))

  pub box_yes : (b q : Bool) → x.word ≡ 2 → b ≡ get_or ts x.a false → b ≡ false → q ≡ clear_at t x.b ts → q ≡ clear_at t n ts
  box_yes b q e g z k = k ∙ sym (clear_box e ∙ and_yes _ _ (ap not (sym g ∙ z)))

  pub new_is : (us : List Bool) (q : Bool) → x.word ≡ 3 → us ≡ set ts x.a false → q ≡ clear_at t x.b us → q ≡ clear_at t n ts
  new_is us q e u k = k ∙ ap (clear_at t x.b) u ∙ sym (clear_new e)

  pub output_is : (q : Bool) → x.word ≡ 4 → q ≡ used → q ≡ clear_at t n ts
  output_is q e u = u ∙ sym (clear_out e)

  pub input_no : (p : Bool) → 5 ≤ x.word → p ≡ used → p ≡ false → false ≡ clear_at t n ts
  input_no p h u z = sym (clear_inp h ∙ and_no _ _ (sym u ∙ z))

  pub input_yes : (p : Bool) (us : List Bool) (q : Bool) → 5 ≤ x.word → p ≡ used → p ≡ true →
      us ≡ hide ts (pattern_names pool x.c) → q ≡ clear_at t x.d us → q ≡ clear_at t n ts
  input_yes p us q h u z v k = k ∙ ap (clear_at t x.d) v ∙ sym (clear_inp h ∙ and_yes _ _ (sym u ∙ z))

  pub nil_is : x.word ≡ 0 → true ≡ clear_at t n ts
  unfolding build clear_in clear_at
  nil_is e = sym (at_kind f ns pool n w x i 0 e)
