-- Refusal 16 at a node, by the node's kind: one law for each way that the code goes.
use mathlib.Core.Path.{◌≡◌, refl, sym, ap, ap₂, ◌∙◌}
use mathlib.Core.Bool.{Bool, true, false}
use mathlib.Core.List.{List, []}
use mathlib.Core.Logic.{◌⊎◌, inl, inr}
use Prim.Native.Nat.{ℕ, ◌≤◌}
use lib.Dec.{ltb}
use lib.ListN.{set}
use Rattle.model.specs.Basics.{◌or◌, or_else}
use Rattle.model.specs.Values.{at, is_public}
use Rattle.model.specs.Table.{Table, build, term}
use Rattle.tables.specs.declared.nodes.Node.{Node}
use Rattle.tables.specs.Nodes.{table, NodeIs}
use Rattle.tables.specs.Scope.{Walks}
use Rattle.tables.proofs.WalkLaws.{at_kind, at_input}
use Rattle.environments.specs.Long.{size_by, long_by}

-- the answer of the term at a node
abbrev long_at : Table → ℕ → List ℕ → Bool
long_at t n ts = long_by (term t n) ts

module _ (ns pool : List ℕ) (n : ℕ) (ts : List ℕ) (w : Walks (table ns pool) n) (x : Node) (i : NodeIs ns n x) where
  abbrev t : Table
  t = table ns pool

  is : (κ : ℕ) → x.word ≡ κ → long_at t n ts ≡ long_by (build κ t n (term t)) ts
  is κ e = at_kind (λ a. long_by a ts) ns pool n w x i κ e

  long_par : x.word ≡ 1 → long_at t n ts ≡ long_at t x.a ts or long_at t x.b ts
  unfolding long_by build
  long_par e = is 1 e ∙ ap₂ (λ (j k : ℕ). long_by (term t j) ts or long_by (term t k) ts) (sym i.f1) (sym i.f2)

  pub left_yes : (p : Bool) → x.word ≡ 1 → p ≡ long_at t x.a ts → p ≡ true → true ≡ long_at t n ts
  unfolding ◌or◌
  left_yes p e k z = sym (long_par e ∙ ap (λ (b : Bool). b or long_at t x.b ts) (sym k ∙ z))

  pub left_no : (p q : Bool) → x.word ≡ 1 → p ≡ long_at t x.a ts → p ≡ false → q ≡ long_at t x.b ts → q ≡ long_at t n ts
  unfolding ◌or◌
  left_no p q e k z k' = k' ∙ sym (long_par e ∙ ap (λ (b : Bool). b or long_at t x.b ts) (sym k ∙ z))

  pub box_is : (q : Bool) → x.word ≡ 2 → q ≡ long_at t x.b ts → q ≡ long_at t n ts
  unfolding long_by build
  box_is q e k = k ∙ sym (is 2 e ∙ ap (λ (j : ℕ). long_by (term t j) ts) (sym i.f2))

  pub new_is : (us : List ℕ) (q : Bool) → x.word ≡ 3 → us ≡ set ts x.a 1 → q ≡ long_at t x.b us → q ≡ long_at t n ts
  unfolding long_by build
  new_is us q e u k =
      k ∙ ap (long_at t x.b) u ∙ sym (is 3 e ∙ ap₂ (λ (m j : ℕ). long_by (term t j) (set ts m 1)) (sym i.f1) (sym i.f2))

  pub out_is : (ws : List ℕ) (q : Bool) → x.word ≡ 4 → ws ≡ or_else (at is_public pool x.c) [] → q ≡ ltb 16 (size_by ts ws) → q ≡ long_at t n ts
  unfolding long_by build
  out_is ws q e u h = h ∙ ap (λ (v : List ℕ). ltb 16 (size_by ts v)) (u ∙ ap (λ (j : ℕ). or_else (at is_public pool j) []) i.f3) ∙ sym (is 4 e)

  -- an input, or nil
  pub rest_is : (x.word ≡ 0) ⊎ (5 ≤ x.word) → false ≡ long_at t n ts
  unfolding long_by build
  rest_is (inl e) = sym (is 0 e)
  rest_is (inr h) = sym (at_input (λ a. long_by a ts) ns pool n w x i false (λ e. refl) h)
