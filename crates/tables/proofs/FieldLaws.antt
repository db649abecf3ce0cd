-- The tests and counts of a node that was read are those of its table: checks 2 to 5, node by node.
use mathlib.Core.Path.{◌≡◌, refl, sym, ap, ap₂, ◌∙◌, subst}
use mathlib.Core.Bool.{Bool, true, false, ◌||◌}
use mathlib.Core.List.{List}
use mathlib.Core.Logic.{◌⊎◌, inl, inr}
use Prim.Native.Nat.{ℕ, zero, suc, ◌+◌, ◌-◌, ◌<◌, ◌≤◌, min}
use native.Mathlib.Omega.{arith}
use native.Mathlib.Numerals.{add-one}
use borrow.Author.Tests.{le-leb, lt-leb, eq-eqb, ne_eqb}
use lib.Dec.{leb, eqb}
use lib.ListN.{length, get_or}
use Rattle.model.specs.Basics.{◌&◌, ◌or◌, refuse, done}
use Rattle.model.specs.Table.{count, field, uses, child_fields, child_times}
use Rattle.model.specs.Checks.{every_field, fields_ok, times_child, first_bad, check2, check3, check4, check5}
use Rattle.tables.specs.declared.nodes.Node.{Node}
use Rattle.tables.specs.declared.nodes.Use.{Use}
use Rattle.tables.specs.Nodes.{table, NodeIs}
use Rattle.tables.specs.Fields.{TestsFields, SaysField, OneOf, AnyField, use_of, four_fields, any_field, unused_ok, kind_ok, child_ok, tree_ok, name_ok, place_ok, child_by, child_of, Counted}
use Rattle.values.proofs.Spans.{eqb_same}

differ : true ≡ false → ⊥
differ z = let y : ◌≡◌ {A = ℕ} 0 1 = cc in omega arith

pub and_true : (a : Bool) → a & true ≡ a
unfolding ◌&◌
and_true true = refl
and_true false = refl

-- where unused fields pass the test, or the kind is one of the seven
module _ (f : ℕ → ℕ → Bool) (ns pool : List ℕ) (n : ℕ) (x : Node) (i : NodeIs ns n x) where
  by_kind : (k a b c d : ℕ) → (leb k 6 ≡ true) ⊎ ((w : ℕ) → f 0 w ≡ true) →
      every_field f (table ns pool) n 1 (uses k) ≡ f (get_or (uses k) 0 0) (field (table ns pool) n 1) &
      (f (get_or (uses k) 1 0) (field (table ns pool) n 2) & (f (get_or (uses k) 2 0) (field (table ns pool) n 3) & (f (get_or (uses k) 3 0) (field (table ns pool) n 4) & true)))
  unfolding ◌&◌
  by_kind zero a b c d o = refl
  by_kind (suc zero) a b c d o = refl
  by_kind (suc (suc zero)) a b c d o = refl
  by_kind (suc (suc (suc zero))) a b c d o = refl
  by_kind (suc (suc (suc (suc zero)))) a b c d o = refl
  by_kind (suc (suc (suc (suc (suc zero))))) a b c d o = refl
  by_kind (suc (suc (suc (suc (suc (suc zero)))))) a b c d o = refl
  by_kind (suc (suc (suc (suc (suc (suc (suc k))))))) a b c d (inl e) = absurd (differ (sym e ∙ lt-leb (suc (suc (suc (suc (suc (suc (suc k))))))) 6 (omega arith)))
  by_kind (suc (suc (suc (suc (suc (suc (suc k))))))) a b c d (inr h) = rw (h (field (table ns pool) n 1), h (field (table ns pool) n 2), h (field (table ns pool) n 3), h (field (table ns pool) n 4))

  pub fields_are : (leb x.word 6 ≡ true) ⊎ ((w : ℕ) → f 0 w ≡ true) → fields_ok (table ns pool) f n ≡ four_fields f x
  unfolding four_fields
  fields_are o = rw (i.f1, i.f2, i.f3, i.f4, ← i.k) (by_kind x.word 0 0 0 0 o ∙ rw (and_true (f (use_of x 3) (field (table ns pool) n 4))))

-- a test that says a, and the next test where it is asked
module _ {a q v : Bool} (b : Bool) where
  pub and_yes : q ≡ true → q ≡ a → v ≡ b → v ≡ a & b
  unfolding ◌&◌
  and_yes e f g = rw (← f, e) g

  pub and_no : q ≡ false → q ≡ a → v ≡ q → v ≡ a & b
  unfolding ◌&◌
  and_no e f g = rw (← f, e) (g ∙ e)

-- `◌&◌` goes together either way
and_assoc : (a b c : Bool) → (a & b) & c ≡ a & (b & c)
unfolding ◌&◌
and_assoc true b c = refl
and_assoc false b c = refl

pub all_four : (f : ℕ → ℕ → Bool) (x : Node) (r : Bool) → r ≡ ((f (use_of x 0) x.a & f (use_of x 1) x.b) & f (use_of x 2) x.c) & f (use_of x 3) x.d → r ≡ four_fields f x
unfolding four_fields
all_four f x r e = e ∙ and_assoc _ _ _ ∙ and_assoc _ _ _

-- one of two tests, by what each of them says: the second is asked where the first does not pass
module _ (A B : Bool → Type 0) where
  pub one_first : (q v : Bool) → q ≡ true → A q → v ≡ q → OneOf A B v
  one_first q v e a f = subst (OneOf A B) (sym (f ∙ e)) (inl (subst A e a))

  pub one_second : (q v b : Bool) → q ≡ false → A q → B b → v ≡ b → OneOf A B v
  one_second q v true e a z f = subst (OneOf A B) (sym f) (inr z)
  one_second q v false e a z f = subst (OneOf A B) (sym f) (subst A e a, z)

  one_is : (a b : Bool) → ((v : Bool) → A v → v ≡ a) → ((v : Bool) → B v → v ≡ b) → (r : Bool) → OneOf A B r → r ≡ a || b
  one_is true b f g true o = refl
  one_is true b f g false (y, z) = f false y
  one_is false b f g true (inl y) = absurd (differ (f true y))
  one_is false b f g true (inr z) = g true z
  one_is false b f g false (y, z) = g false z

pub any_four : (f : ℕ → ℕ → Bool) (x : Node) (r : Bool) → r ≡ ((f (use_of x 0) x.a || f (use_of x 1) x.b) || f (use_of x 2) x.c) || f (use_of x 3) x.d → r ≡ any_field f x
unfolding any_field
any_four f x r e = e ∙ by (f (use_of x 0) x.a) (f (use_of x 1) x.b)
  where
    by : (a b : Bool) → ((a || b) || f (use_of x 2) x.c) || f (use_of x 3) x.d ≡ a || (b || (f (use_of x 2) x.c || f (use_of x 3) x.d))
    by true b = refl
    by false true = refl
    by false false = refl

-- whether a test that says what p says passes a field
pub any_said : {says : Use → ℕ → Bool → Type 0} (p : ℕ → ℕ → Bool) → TestsFields says p → (x : Node) (r : Bool) → AnyField says x r → r ≡ any_field p x
any_said {says = test} p t x r h = any_four p x r (one_is three (says 3 x.d) _ _ (one_is two (says 2 x.c) _ _ (one_is (says 0 x.a) (says 1 x.b) _ _ (of 0 x.a) (of 1 x.b)) (of 2 x.c)) (of 3 x.d) r h)
  where
    says : (i w : ℕ) → Bool → Type 0
    says = SaysField test x

    two : Bool → Type 0
    two = OneOf (says 0 x.a) (says 1 x.b)

    three : Bool → Type 0
    three = OneOf two (says 2 x.c)

    of : (i w : ℕ) (v : Bool) → SaysField test x i w v → v ≡ p (use_of x i) w
    of i w v s = t _ _ _ s.said ∙ ap (λ (u : ℕ). p u w) s.used

-- HOW OFTEN A NODE IS A CHILD
module _ (ns pool : List ℕ) (n : ℕ) (x : Node) (i : NodeIs ns n x) (m : ℕ) where
  child_kind : (k : ℕ) → child_fields (table ns pool) m n 1 (uses k) ≡
      child_by (get_or (uses k) 0 0) (field (table ns pool) n 1) m +
      (child_by (get_or (uses k) 1 0) (field (table ns pool) n 2) m + (child_by (get_or (uses k) 2 0) (field (table ns pool) n 3) m + child_by (get_or (uses k) 3 0) (field (table ns pool) n 4) m))
  child_kind zero = refl
  child_kind (suc zero) = refl
  child_kind (suc (suc zero)) = refl
  child_kind (suc (suc (suc zero))) = refl
  child_kind (suc (suc (suc (suc zero)))) = refl
  child_kind (suc (suc (suc (suc (suc zero))))) = omega arith
  child_kind (suc (suc (suc (suc (suc (suc zero)))))) = omega arith
  child_kind (suc (suc (suc (suc (suc (suc (suc k))))))) = refl

  pub child_is : child_times (table ns pool) m n ≡ child_of x m
  unfolding child_times
  child_is = rw (i.f1, i.f2, i.f3, i.f4, ← i.k) (child_kind x.word)

  pub times_more : (old r : List ℕ) → m < length old → Counted old (child_of x) r → get_or old m 0 ≡ min 2 (times_child (table ns pool) m n) → get_or r m 0 ≡ min 2 (times_child (table ns pool) m (n + 1))
  unfolding times_child
  times_more old r h t e =
      let z = t.at m h (omega arith) in
      let c = child_is in
      rw (add-one n) (omega arith)

-- the first node at which a test fails
module _ (f : ℕ → Bool) (c i : ℕ) where
  pub bad_more : i < c → f i ≡ true → first_bad f (c - i) i ≡ first_bad f (c - (i + 1)) (i + 1)
  unfolding first_bad
  bad_more h e = ap (λ (k : ℕ). first_bad f k i) step ∙ rw (e, first_bad)
    where
      step : c - i ≡ suc (c - (i + 1))
      step = omega arith

  pub bad_here : i < c → f i ≡ false → first_bad f (c - i) i ≡ done i
  unfolding first_bad
  bad_here h e = ap (λ (k : ℕ). first_bad f k i) step ∙ rw (e, first_bad)
    where
      step : c - i ≡ suc (c - (i + 1))
      step = omega arith

  pub bad_none : c ≤ i → first_bad f (c - i) i ≡ refuse 0
  unfolding first_bad
  bad_none h = ap (λ (k : ℕ). first_bad f k i) step
    where
      step : c - i ≡ 0
      step = omega arith

pub tree_is : (ns pool : List ℕ) (n k : ℕ) (x : Node) → NodeIs ns n x → k ≡ min 2 (times_child (table ns pool) n (count (table ns pool))) → tree_ok n (count (table ns pool)) k x ≡ check3 (table ns pool) n
unfolding tree_ok check3
tree_is ns pool n k x i e =
    ap₂ ◌&◌ (sym (fields_are (child_ok n (count (table ns pool))) ns pool n x i (inr λ w. refl)))
    (ap (λ (b : Bool). eqb n 0 or b) (eqb_same k 1 (times_child (table ns pool) n (count (table ns pool))) 1 (λ q. omega arith) (λ q. omega arith)))

pub tree_bad : (n c k : ℕ) (x : Node) → four_fields (child_ok n c) x ≡ false → false ≡ tree_ok n c k x
unfolding tree_ok ◌&◌
tree_bad n c k x e = rw e

pub tree_root : (n c k : ℕ) (x : Node) → four_fields (child_ok n c) x ≡ true → n ≡ 0 → eqb n 0 ≡ tree_ok n c k x
unfolding tree_ok ◌&◌ ◌or◌
tree_root n c k x e z = rw (e, eq-eqb n 0 z)

pub tree_once : (n c k : ℕ) (x : Node) → four_fields (child_ok n c) x ≡ true → ((n ≡ 0) → ⊥) → eqb k 1 ≡ tree_ok n c k x
unfolding tree_ok ◌&◌ ◌or◌
tree_once n c k x e z = rw (e, ne_eqb n 0 z)

pub times_none : (ns pool : List ℕ) (m k : ℕ) → k ≡ 0 → k ≡ min 2 (times_child (table ns pool) m 0)
unfolding times_child
times_none ns pool m k e = e

pub times_all : (ns pool : List ℕ) (m k n c : ℕ) → n ≡ c → k ≡ min 2 (times_child (table ns pool) m n) → k ≡ min 2 (times_child (table ns pool) m c)
times_all ns pool m k n c e p = p ∙ ap (λ (j : ℕ). min 2 (times_child (table ns pool) m j)) e

pub bad_start : (f : ℕ → Bool) (c : ℕ) → first_bad f c 0 ≡ first_bad f (c - 0) 0
bad_start f c = ap (λ (k : ℕ). first_bad f k 0) same
  where
    same : c ≡ c - 0
    same = omega arith

pub kind_is : (ns pool : List ℕ) (n : ℕ) (x : Node) → NodeIs ns n x → kind_ok x ≡ check2 (table ns pool) n
unfolding kind_ok check2 ◌&◌
kind_is ns pool n x i = go (leb x.word 6) refl ∙ ap (λ (j : ℕ). leb j 6 & fields_ok (table ns pool) unused_ok n) i.k
  where
    go : (b : Bool) → leb x.word 6 ≡ b → b & four_fields unused_ok x ≡ b & fields_ok (table ns pool) unused_ok n
    go true e = sym (fields_are unused_ok ns pool n x i (inl e))
    go false e = refl

pub kind_known : (x : Node) (r : Bool) → x.word ≤ 6 → r ≡ four_fields unused_ok x → r ≡ kind_ok x
unfolding kind_ok ◌&◌
kind_known x r h e = e ∙ rw (le-leb x.word 6 h)

pub kind_unknown : (x : Node) → 6 < x.word → leb x.word 6 ≡ kind_ok x
unfolding kind_ok ◌&◌
kind_unknown x h = rw (lt-leb x.word 6 h)

pub names_are : (ns pool : List ℕ) (n : ℕ) (x : Node) → NodeIs ns n x → four_fields name_ok x ≡ check4 (table ns pool) n
unfolding check4 ◌&◌
names_are ns pool n x i = sym (fields_are name_ok ns pool n x i (inr λ w. refl))

pub places_are : (ns pool : List ℕ) (n : ℕ) (x : Node) → NodeIs ns n x → four_fields (place_ok pool) x ≡ check5 (table ns pool) n
unfolding check5 ◌&◌
places_are ns pool n x i = sym (fields_are (place_ok pool) ns pool n x i (inr λ w. refl))
