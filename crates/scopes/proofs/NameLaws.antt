-- The names in force, found upwards from parent to parent, the last eight of them.
use mathlib.Core.Path.{◌≡◌, refl, sym, ap, ap₂, ◌∙◌}
use mathlib.Core.Bool.{Bool, true, false, not, cond, ◌||◌}
use mathlib.Core.List.{List, [], ◌∷◌, ◌++◌}
use Prim.Native.Nat.{ℕ, zero, suc, ◌+◌, ◌-◌, ◌<◌, ◌≤◌, min}
use native.Mathlib.Omega.{arith}
use native.Mathlib.Numerals.{add-one}
use borrow.Author.Tests.{not-true, not-false, le-leb, lt-leb, leb-true, leb-false, eq-eqb, ne_eqb}
use lib.Dec.{leb, eqb}
use lib.ListN.{length, get_or, drop, set, length-append, length-drop, length-set, drop_of_length-le}
use lib.Seq.{drop-length, drop-cons, drop-set-lt, get_or-set_same, drop-append-add}
use Rattle.model.specs.Values.{binders, is_public}
use Rattle.model.specs.Table.{Table, field, child_times, bound, scope_up}
use Rattle.model.proofs.Basics.Checked.{up_acc}
use Rattle.tables.specs.declared.nodes.Node.{Node}
use Rattle.tables.specs.Nodes.{table, NodeIs, pattern_names}
use Rattle.tables.specs.Fields.{use_of, child_of, any_field}
use Rattle.tables.proofs.FieldLaws.{child_is}
use Rattle.scopes.specs.declared.names.Names.{Names}
use Rattle.scopes.specs.Names.{view_names, last_eight, is_child, is_parent}

-- THE LAST EIGHT
pub last_few : (l : List ℕ) → length l ≤ 8 → last_eight l ≡ l
unfolding last_eight
last_few l h = ap (λ (k : ℕ). drop k l) zeroth
  where
    zeroth : length l - 8 ≡ 0
    zeroth = omega arith

last_length : (l : List ℕ) → 8 ≤ length l → length (last_eight l) ≡ 8
unfolding last_eight
last_length l h = omega (arith, length-drop (length l - 8) l)

pub last_at_most : (l : List ℕ) → length (last_eight l) ≤ 8
unfolding last_eight
last_at_most l = omega (arith, length-drop (length l - 8) l)

-- the last eight of a ++ b come from b alone, where it has eight
last_back : (a b : List ℕ) → 8 ≤ length b → last_eight (a ++ b) ≡ last_eight b
unfolding last_eight
last_back a b h = ap (λ (k : ℕ). drop k (a ++ b)) count ∙ drop-append-add a b (length b - 8)
  where
    count : length (a ++ b) - 8 ≡ length a + (length b - 8)
    count = omega (arith, length-append a b)

pub last_append : (a b : List ℕ) → last_eight (a ++ last_eight b) ≡ last_eight (a ++ b)
last_append a b = go (leb (length b) 8) refl
  where
    go : (t : Bool) → leb (length b) 8 ≡ t → last_eight (a ++ last_eight b) ≡ last_eight (a ++ b)
    go true e = ap (λ (x : List ℕ). last_eight (a ++ x)) (last_few b (leb-true (length b) 8 e))
    go false e =
        let h = leb-false (length b) 8 e in
        let z = last_length b (omega arith) in
        last_back a (last_eight b) (omega arith) ∙ last_few (last_eight b) (omega arith) ∙ sym (last_back a b (omega arith))

-- A NAME PUT BEFORE THE OTHERS
module _ (rows : List ℕ) (n w : ℕ) (full : length rows ≡ 8) where
  abbrev names : List ℕ → ℕ → Names
  names r t = record { rows = r; top = t }

  pub view_few : length (view_names (names rows n)) ≤ 8
  view_few = omega (arith, length-drop n rows)

  pub outer_in : (m : ℕ) → m ≡ min n 8 → 0 < m → view_names (names (set rows (m - 1) w) (m - 1)) ≡ last_eight (w ∷ drop n rows)
  outer_in m q h =
      let e : suc (m - 1) ≡ m = omega arith in
      drop-cons (set rows (m - 1) w) (m - 1) 0 (rw (length-set rows (m - 1) w) (omega arith)) ∙
      ap₂ (λ (x : ℕ) (y : List ℕ). x ∷ y) (get_or-set_same rows (m - 1) w 0 (omega arith))
      (drop-set-lt (suc (m - 1)) rows (m - 1) w (omega arith) ∙ ap (λ (k : ℕ). drop k rows) e ∙ past (leb n 8) refl) ∙
      sym (last_few (w ∷ drop n rows) (omega (arith, length-drop n rows)))
    where
      past : (b : Bool) → leb n 8 ≡ b → drop m rows ≡ drop n rows
      past true e = let z : m ≡ n = omega (arith, leb-true n 8 e) in ap (λ (k : ℕ). drop k rows) z
      past false e =
          let l : 8 < n = leb-false n 8 e in
          drop_of_length-le rows {i = m} (omega arith) ∙ sym (drop_of_length-le rows {i = n} (omega arith))

  pub outer_full : n ≤ 0 → view_names (names rows n) ≡ last_eight (w ∷ drop n rows)
  outer_full h =
      let z = length-drop n rows in
      sym (last_back (w ∷ []) (drop n rows) (omega arith) ∙ last_few (drop n rows) (omega arith))

-- A PATTERN'S NAMES PUT BEFORE THE OTHERS, from the back
module _ (s : List ℕ) (i : ℕ) (h : i < length s) where
  at_back : binders (drop i s) ≡ binders (get_or s i 0 ∷ []) ++ binders (drop (i + 1) s)
  at_back = rw (add-one, drop-cons s i 0 h) (go (is_public (get_or s i 0)))
    where
      go : (t : Bool) → cond t (get_or s i 0 ∷ binders (drop (suc i) s)) (binders (drop (suc i) s)) ≡ cond t (get_or s i 0 ∷ []) [] ++ binders (drop (suc i) s)
      go true = refl
      go false = refl

  back_name : get_or s i 0 ≤ 63 → binders (drop i s) ≡ get_or s i 0 ∷ binders (drop (i + 1) s)
  back_name l = at_back ∙ rw (le-leb (get_or s i 0) 63 l)

  back_other : 63 < get_or s i 0 → binders (drop i s) ≡ binders (drop (i + 1) s)
  back_other l = at_back ∙ rw (lt-leb (get_or s i 0) 63 l)

module _ (s : List ℕ) (i j : ℕ) (v r : List ℕ) (h : j < length s) (e : i ≡ j + 1) (p : r ≡ last_eight (binders (drop i s) ++ v)) where
  here : r ≡ last_eight (binders (drop (j + 1) s) ++ v)
  here = p ∙ ap (λ (k : ℕ). last_eight (binders (drop k s) ++ v)) e

  pub step_name : (q : List ℕ) → get_or s j 0 ≤ 63 → q ≡ last_eight (get_or s j 0 ∷ r) → q ≡ last_eight (binders (drop j s) ++ v)
  step_name q l z =
      z ∙ ap (λ (x : List ℕ). last_eight (get_or s j 0 ∷ x)) here ∙ last_append (get_or s j 0 ∷ []) (binders (drop (j + 1) s) ++ v) ∙
      ap (λ (x : List ℕ). last_eight (x ++ v)) (sym (back_name s j h l))

  pub step_other : 63 < get_or s j 0 → r ≡ last_eight (binders (drop j s) ++ v)
  step_other l = here ∙ ap (λ (x : List ℕ). last_eight (x ++ v)) (sym (back_other s j h l))

pub back_start : (s v : List ℕ) → length v ≤ 8 → v ≡ last_eight (binders (drop (length s) s) ++ v)
back_start s v h = sym (ap (λ (x : List ℕ). last_eight (binders x ++ v)) (drop-length s) ∙ last_few v h)

pub back_end : (s v r : List ℕ) (i : ℕ) → i ≤ 0 → r ≡ last_eight (binders (drop i s) ++ v) → r ≡ last_eight (binders s ++ v)
back_end s v r zero h e = e
back_end s v r (suc i) h e = absurd (omega arith)

-- THE NAMES THAT A NODE BINDS
module _ (ns pool : List ℕ) (n : ℕ) (x : Node) (i : NodeIs ns n x) where
  pub bound_new : x.word ≡ 3 → bound (table ns pool) n ≡ field (table ns pool) n 1 ∷ []
  bound_new e = rw (← i.k, eq-eqb x.word 3 e)

  pub bound_input : 5 ≤ x.word → bound (table ns pool) n ≡ pattern_names pool x.c
  bound_input h = rw (← i.k, ne_eqb x.word 3 (λ q. omega arith), le-leb 5 x.word h, i.f3)

  pub bound_none : ((x.word ≡ 3) → ⊥) → x.word < 5 → bound (table ns pool) n ≡ []
  bound_none e h = rw (← i.k, ne_eqb x.word 3 e, lt-leb 5 x.word h)

-- WHETHER A NODE IS THE PARENT
-- a test of one field, as many as one of them names the child
pub parent_by : (x : Node) (m : ℕ) → any_field (λ u w. is_child u w m) x ≡ is_parent x m
unfolding is_parent any_field
parent_by x m = go (is_child (use_of x 0) x.a m) (is_child (use_of x 1) x.b m) (is_child (use_of x 2) x.c m) (is_child (use_of x 3) x.d m)
  where
    more : (s : ℕ) → 0 < s → true ≡ not (eqb s 0)
    more s h = ap not (sym (ne_eqb s 0 (λ q. omega arith)))

    go : (a b c d : Bool) → a || (b || (c || d)) ≡ not (eqb (cond a 1 0 + (cond b 1 0 + (cond c 1 0 + cond d 1 0))) 0)
    go true b c d = more (1 + (cond b 1 0 + (cond c 1 0 + cond d 1 0))) (omega arith)
    go false true c d = more (0 + (1 + (cond c 1 0 + cond d 1 0))) (omega arith)
    go false false true d = more (0 + (0 + (1 + cond d 1 0))) (omega arith)
    go false false false true = refl
    go false false false false = refl

-- THE WALK UP
module _ (ns pool : List ℕ) (k cur : ℕ) (x : Node) (i : NodeIs ns k x) (acc : List ℕ) where
  up_skip : is_parent x cur ≡ false → scope_up (table ns pool) (k + 1) cur acc ≡ scope_up (table ns pool) k cur acc
  unfolding is_parent scope_up
  up_skip e =
      let z : eqb (child_times (table ns pool) cur k) 0 ≡ true = ap (λ (j : ℕ). eqb j 0) (child_is ns pool k x i cur) ∙ not-false (eqb (child_of x cur) 0) e in
      ap (λ (j : ℕ). scope_up (table ns pool) j cur acc) (add-one k) ∙ rw (z, scope_up)

  up_take : is_parent x cur ≡ true → scope_up (table ns pool) (k + 1) cur acc ≡ scope_up (table ns pool) k k (bound (table ns pool) k ++ acc)
  unfolding is_parent scope_up
  up_take e =
      let z : eqb (child_times (table ns pool) cur k) 0 ≡ false = ap (λ (j : ℕ). eqb j 0) (child_is ns pool k x i cur) ∙ not-true (eqb (child_of x cur) 0) e in
      ap (λ (j : ℕ). scope_up (table ns pool) j cur acc) (add-one k) ∙ rw (z, scope_up)

up_last : (t : Table) (k cur : ℕ) (acc : List ℕ) → last_eight (scope_up t k cur (last_eight acc)) ≡ last_eight (scope_up t k cur acc)
up_last t k cur acc = ap last_eight (up_acc t k cur (last_eight acc)) ∙ last_append (scope_up t k cur []) acc ∙ sym (ap last_eight (up_acc t k cur acc))

module _ (ns pool : List ℕ) (m k cur : ℕ) (x : Node) (i : NodeIs ns k x) (all v : List ℕ) (e : m ≡ k + 1) (p : all ≡ last_eight (scope_up (table ns pool) m cur v)) where
  below : all ≡ last_eight (scope_up (table ns pool) (k + 1) cur v)
  below = p ∙ ap (λ (j : ℕ). last_eight (scope_up (table ns pool) j cur v)) e

  pub walk_skip : is_parent x cur ≡ false → all ≡ last_eight (scope_up (table ns pool) k cur v)
  walk_skip q = below ∙ ap last_eight (up_skip ns pool k cur x i v q)

  pub walk_take : is_parent x cur ≡ true → (r : List ℕ) → r ≡ last_eight (bound (table ns pool) k ++ v) → all ≡ last_eight (scope_up (table ns pool) k k r)
  walk_take q r z =
      below ∙ ap last_eight (up_take ns pool k cur x i v q) ∙ sym (up_last (table ns pool) k k (bound (table ns pool) k ++ v)) ∙
      ap (λ (y : List ℕ). last_eight (scope_up (table ns pool) k k y)) (sym z)

pub walk_end : (t : Table) (m cur : ℕ) (v all : List ℕ) → m ≤ 0 → length v ≤ 8 → all ≡ last_eight (scope_up t m cur v) → v ≡ all
unfolding scope_up
walk_end t zero cur v all h l e = sym (e ∙ last_few v l)
walk_end t (suc m) cur v all h l e = absurd (omega arith)
