-- In a table that passes the checks the term at node n has at most as many nodes as there are from n on: each node stands in
-- it at most once, since it has one parent. So a node unfolds to at most 256 particles, boxes and new names.
use mathlib.Core.Path.{◌≡◌, refl, sym, ap, ap₂, ◌∙◌, subst}
use mathlib.Core.Bool.{Bool, true, false, cond}
use mathlib.Core.Logic.{⊎_elim}
use Prim.Native.Nat.{ℕ, zero, suc, ◌+◌, ◌-◌, ◌<◌, ◌≤◌}
use native.Mathlib.Omega.{arith}
use borrow.Author.Tests.{leb-true, leb-false, eqb-true, eqb-false, eq-eqb, ne_eqb}
use lib.Dec.{leb, eqb}
use Rattle.model.specs.Table.{Table, count, kind, field, child_times, Term, nil, par, box, new, out, inp, build, term}
use Rattle.model.specs.Checks.{check2, check3, times_child}
use Rattle.model.specs.Unfolding.{particles_in, boxes_in, new_names_in}
use Rattle.model.proofs.Basics.Tests.{fst, snd, alt}
use Rattle.model.proofs.Basics.Terms.{Child, left, right, in_box, in_new, in_body, term_at_lem}
use Rattle.model.proofs.Basics.Checked.{Checked, is_tree, parent_counts, two_le, one_le, split}
use Rattle.tables.specs.Checks.{Passes}
use Rattle.scopes.proofs.ScopeBound.{parent, passes_checked, no_fault, count_few}

-- 1 where two numbers are equal
is : ℕ → ℕ → ℕ
is m n = cond (eqb m n) 1 0

is_same : (m n : ℕ) → m ≡ n → is m n ≡ 1
unfolding is
is_same m n e = rw (eq-eqb m n e)

is_other : (m n : ℕ) → ((m ≡ n) → ⊥) → is m n ≡ 0
unfolding is
is_other m n e = rw (ne_eqb m n e)

-- how many nodes a term has, and how often one of them is node m
nodes_in : Term → ℕ
nodes_in (nil n) = 1
nodes_in (par n a b) = 1 + (nodes_in a + nodes_in b)
nodes_in (box n x a) = 1 + nodes_in a
nodes_in (new n x a) = 1 + nodes_in a
nodes_in (out n c g v) = 1
nodes_in (inp n r c g p a) = 1 + nodes_in a

times : ℕ → Term → ℕ
times m (nil n) = is m n
times m (par n a b) = is m n + (times m a + times m b)
times m (box n x a) = is m n + times m a
times m (new n x a) = is m n + times m a
times m (out n c g v) = is m n
times m (inp n r c g p a) = is m n + times m a

-- A SUM OVER THE CHILDREN OF A NODE
kids : (kind : ℕ) → Table → ℕ → (ℕ → ℕ) → ℕ
kids zero t n f = 0
kids (suc zero) t n f = f (field t n 1) + f (field t n 2)
kids (suc (suc zero)) t n f = f (field t n 2)
kids (suc (suc (suc zero))) t n f = f (field t n 2)
kids (suc (suc (suc (suc zero)))) t n f = 0
kids (suc (suc (suc (suc (suc e))))) t n f = f (field t n 4)

module _ (t : Table) (n : ℕ) where
  kids_cong : (κ : ℕ) (f g : ℕ → ℕ) → ((c : ℕ) → Child t n κ c → f c ≡ g c) → kids κ t n f ≡ kids κ t n g
  unfolding kids
  kids_cong zero f g h = refl
  kids_cong (suc zero) f g h = ap₂ ◌+◌ (h _ left) (h _ right)
  kids_cong (suc (suc zero)) f g h = h _ in_box
  kids_cong (suc (suc (suc zero))) f g h = h _ in_new
  kids_cong (suc (suc (suc (suc zero)))) f g h = refl
  kids_cong (suc (suc (suc (suc (suc e))))) f g h = h _ in_body

  kids_none : (κ : ℕ) → kids κ t n (λ c. 0) ≡ 0
  unfolding kids
  kids_none zero = refl
  kids_none (suc zero) = refl
  kids_none (suc (suc zero)) = refl
  kids_none (suc (suc (suc zero))) = refl
  kids_none (suc (suc (suc (suc zero)))) = refl
  kids_none (suc (suc (suc (suc (suc e))))) = refl

  kids_add : (κ : ℕ) (f g : ℕ → ℕ) → kids κ t n (λ c. f c + g c) ≡ kids κ t n f + kids κ t n g
  unfolding kids
  kids_add zero f g = refl
  kids_add (suc zero) f g = omega arith
  kids_add (suc (suc zero)) f g = refl
  kids_add (suc (suc (suc zero))) f g = refl
  kids_add (suc (suc (suc (suc zero)))) f g = refl
  kids_add (suc (suc (suc (suc (suc e))))) f g = refl

  kids_times : (m κ : ℕ) → times m (build κ t n (term t)) ≡ is m n + kids κ t n (λ c. times m (term t c))
  unfolding kids times build
  kids_times m zero = omega arith
  kids_times m (suc zero) = refl
  kids_times m (suc (suc zero)) = refl
  kids_times m (suc (suc (suc zero))) = refl
  kids_times m (suc (suc (suc (suc zero)))) = omega arith
  kids_times m (suc (suc (suc (suc (suc e))))) = refl

  kids_nodes : (κ : ℕ) → nodes_in (build κ t n (term t)) ≡ 1 + kids κ t n (λ c. nodes_in (term t c))
  unfolding kids nodes_in build
  kids_nodes zero = refl
  kids_nodes (suc zero) = refl
  kids_nodes (suc (suc zero)) = refl
  kids_nodes (suc (suc (suc zero))) = refl
  kids_nodes (suc (suc (suc (suc zero)))) = refl
  kids_nodes (suc (suc (suc (suc (suc e))))) = refl

  kids_counted : (m κ : ℕ) → kind t n ≡ κ → κ ≤ 6 → child_times t m n ≡ kids κ t n (λ c. is c m)
  unfolding kids is child_times
  kids_counted m zero e l = rw e
  kids_counted m (suc zero) e l = rw e (omega arith)
  kids_counted m (suc (suc zero)) e l = rw e (omega arith)
  kids_counted m (suc (suc (suc zero))) e l = rw e (omega arith)
  kids_counted m (suc (suc (suc (suc zero)))) e l = rw e
  kids_counted m (suc (suc (suc (suc (suc zero))))) e l = rw e (omega arith)
  kids_counted m (suc (suc (suc (suc (suc (suc zero)))))) e l = rw e (omega arith)
  kids_counted m (suc (suc (suc (suc (suc (suc (suc k))))))) e l = absurd (omega arith)

-- A SUM OVER THE FIRST k NODES

sum_to : ℕ → (ℕ → ℕ) → ℕ
sum_to zero f = 0
sum_to (suc k) f = f k + sum_to k f

sum_add : (k : ℕ) (f g : ℕ → ℕ) → sum_to k (λ m. f m + g m) ≡ sum_to k f + sum_to k g
unfolding sum_to
sum_add zero f g = refl
sum_add (suc k) f g = let z = sum_add k f g in omega arith

sum_cong : (k : ℕ) (f g : ℕ → ℕ) → ((m : ℕ) → f m ≡ g m) → sum_to k f ≡ sum_to k g
unfolding sum_to
sum_cong zero f g h = refl
sum_cong (suc k) f g h = ap₂ ◌+◌ (h k) (sum_cong k f g h)

sum_none : (k : ℕ) → sum_to k (λ m. 0) ≡ 0
unfolding sum_to
sum_none zero = refl
sum_none (suc k) = let z = sum_none k in omega arith

sum_past : (k n : ℕ) → k ≤ n → sum_to k (λ m. is m n) ≡ 0
unfolding sum_to
sum_past zero n h = refl
sum_past (suc k) n h = let z = sum_past k n (omega arith) in let y = is_other k n (λ q. omega arith) in omega arith

sum_is : (k n : ℕ) → n < k → sum_to k (λ m. is m n) ≡ 1
unfolding sum_to
sum_is zero n h = absurd (omega arith)
sum_is (suc k) n h = ⊎_elim
    (λ e. let z = sum_past k n (omega arith) in let y = is_same k n (sym e) in omega arith)
    (λ l. let z = sum_is k n l in let y = is_other k n (λ q. omega arith) in omega arith)
    (split n k h)

sum_kids : (t : Table) (n κ k : ℕ) (f : ℕ → ℕ → ℕ) → sum_to k (λ m. kids κ t n (f m)) ≡ kids κ t n (λ c. sum_to k (λ m. f m c))
unfolding sum_to kids
sum_kids t n zero k f = sum_none k
sum_kids t n (suc zero) k f = sum_add k (λ m. f m (field t n 1)) (λ m. f m (field t n 2))
sum_kids t n (suc (suc zero)) k f = refl
sum_kids t n (suc (suc (suc zero))) k f = refl
sum_kids t n (suc (suc (suc (suc zero)))) k f = sum_none k
sum_kids t n (suc (suc (suc (suc (suc e))))) k f = refl

sum_bound : (k n : ℕ) (f : ℕ → ℕ) → ((m : ℕ) → m < n → f m ≡ 0) → ((m : ℕ) → m < k → f m ≤ 1) → sum_to k f ≤ k - n
unfolding sum_to
sum_bound zero n f a b = omega arith
sum_bound (suc k) n f a b = go (leb n k) refl (sum_bound k n f a (λ m l. b m (omega arith)))
  where
    go : (c : Bool) → leb n k ≡ c → sum_to k f ≤ k - n → f k + sum_to k f ≤ suc k - n
    go true e z = let l = leb-true n k e in let y = b k (omega arith) in omega arith
    go false e z = let l = leb-false n k e in let y = a k l in omega arith

-- A NODE IS A CHILD OF THE FIRST k NODES AT LEAST AS OFTEN AS OF ONE OR TWO OF THEM

-- THE TERM AT A NODE
module _ (t : Table) (q : Checked t) where
  times_at : (n m : ℕ) → n < count t → times m (term t n) ≡ is m n + kids (kind t n) t n (λ c. times m (term t c))
  times_at n m l = ap (times m) (term_at_lem t (is_tree t q) n l) ∙ kids_times t n m (kind t n)

  nodes_at : (n : ℕ) → n < count t → nodes_in (term t n) ≡ 1 + kids (kind t n) t n (λ c. nodes_in (term t c))
  nodes_at n l = ap nodes_in (term_at_lem t (is_tree t q) n l) ∙ kids_nodes t n (kind t n)

  -- no node below n stands in the term at n
  low : (f n : ℕ) → count t ≤ n + f → n < count t → (m : ℕ) → m < n → times m (term t n) ≡ 0
  low zero n h l m k = absurd (omega arith)
  low (suc f) n h l m k =
      times_at n m l ∙
      ap₂ ◌+◌ (is_other m n (λ e. omega arith))
      (kids_cong t n (kind t n) (λ c. times m (term t c)) (λ c. 0) (λ c ch. let a = is_tree t q n c l ch in low f c (omega arith) a.1 m (omega arith)) ∙
      kids_none t n (kind t n))

  low_at : (n m : ℕ) → n < count t → m < n → times m (term t n) ≡ 0
  low_at n m l k = low (count t) n (omega arith) l m k

  self : (n : ℕ) → n < count t → times n (term t n) ≡ 1
  self n l =
      times_at n n l ∙
      ap₂ ◌+◌ (is_same n n refl)
      (kids_cong t n (kind t n) (λ c. times n (term t c)) (λ c. 0) (λ c ch. let a = is_tree t q n c l ch in low_at c n a.1 a.0) ∙
      kids_none t n (kind t n))

  -- the one parent of m
  module _ (m p : ℕ) (lm : m < count t) (lp : p < count t) (ch : Child t p (kind t p) m) where
    above : p < m
    above = (is_tree t q p m lp ch).0

    once : times_child t m (count t) ≡ 1
    unfolding check3
    once = let a = above in ⊎_elim (λ z. let e = eqb-true m 0 z in absurd (omega arith)) (λ z. eqb-true (times_child t m (count t)) 1 z) (alt _ _ (snd _ _ (q.c3 m lm)))

    child_of_lem : (n : ℕ) → n < count t → child_times t m n ≡ is p n
    unfolding is
    child_of_lem n l = go (eqb p n) refl
      where
        go : (b : Bool) → eqb p n ≡ b → child_times t m n ≡ cond b 1 0
        go true e =
            let z = parent_counts t q p m lp ch in
            let y = one_le t m (count t) p lp in
            let x = once in
            subst (λ (j : ℕ). child_times t m j ≡ 1) (eqb-true p n e) (omega arith)
        go false e =
            let z = parent_counts t q p m lp ch in
            let y = two_le t m (count t) n p l lp (λ d. eqb-false p n e (sym d)) in
            let x = once in
            omega arith

    known : (n : ℕ) → n < count t → kind t n ≤ 6
    unfolding check2
    known n l = leb-true (kind t n) 6 (fst _ _ (q.c2 n l))

    -- m stands as often as its parent in a term that does not start with m, and once more in the term at m
    at_child : (n : ℕ) → n < count t → (((n ≡ m) → ⊥) → times m (term t n) ≡ times p (term t n)) → times m (term t n) ≡ times p (term t n) + is n m
    unfolding is
    at_child n l h = go (eqb n m) refl
      where
        go : (b : Bool) → eqb n m ≡ b → times m (term t n) ≡ times p (term t n) + cond b 1 0
        go true e =
            let d : n ≡ m = eqb-true n m e in
            let x : times m (term t n) ≡ 1 = ap (λ (j : ℕ). times j (term t n)) (sym d) ∙ self n l in
            let a = above in
            let y = low_at n p l (omega arith) in
            omega arith
        go false e = let x = h (eqb-false n m e) in omega arith

    as_parent : (f n : ℕ) → count t ≤ n + f → n < count t → ((n ≡ m) → ⊥) → times m (term t n) ≡ times p (term t n)
    as_parent zero n h l d = absurd (omega arith)
    as_parent (suc f) n h l d =
        let a = times_at n m l in
        let b = times_at n p l in
        let u = is_other m n (λ e. d (sym e)) in
        let v = kids_cong t n (kind t n) (λ c. times m (term t c)) (λ c. times p (term t c) + is c m) (λ c k. let x = is_tree t q n c l k in at_child c x.1 (as_parent f c (omega arith) x.1)) in
        let w = kids_add t n (kind t n) (λ c. times p (term t c)) (λ c. is c m) in
        let x = kids_counted t n m (kind t n) refl (known n l) in
        let y = child_of_lem n l in
        omega arith

  -- each node stands at most once
  at_most_once : (n : ℕ) → n < count t → (f m : ℕ) → m < f → m < count t → times m (term t n) ≤ 1
  at_most_once n l zero m h k = absurd (omega arith)
  at_most_once n l (suc f) zero h k = go (eqb n 0) refl
    where
      go : (b : Bool) → eqb n 0 ≡ b → times 0 (term t n) ≤ 1
      go true e = let d : n ≡ 0 = eqb-true n 0 e in let x : times 0 (term t n) ≡ 1 = ap (λ (j : ℕ). times j (term t n)) (sym d) ∙ self n l in omega arith
      go false e = let x = low_at n 0 l (pos n (eqb-false n 0 e)) in omega arith
        where
          pos : (n : ℕ) → ((n ≡ 0) → ⊥) → 0 < n
          pos n h = omega arith
  at_most_once n l (suc f) (suc m) h k = go (eqb n (suc m)) refl (at_most_once n l f)
    where
      go : (b : Bool) → eqb n (suc m) ≡ b → ((m : ℕ) → m < f → m < count t → times m (term t n) ≤ 1) → times (suc m) (term t n) ≤ 1
      go true e ih = let d : n ≡ suc m = eqb-true n (suc m) e in let x : times (suc m) (term t n) ≡ 1 = ap (λ (j : ℕ). times j (term t n)) (sym d) ∙ self n l in omega arith
      go false e ih =
          let p = parent t q (suc m) (omega arith) k in
          let a = above (suc m) p.0 k p.1 p.2 in
          let x = as_parent (suc m) p.0 k p.1 p.2 (count t) n (omega arith) l (eqb-false n (suc m) e) in
          let y = ih p.0 (omega arith) p.1 in
          omega arith

  -- the nodes of a term, counted one by one
  total : (f n : ℕ) → count t ≤ n + f → n < count t → sum_to (count t) (λ m. times m (term t n)) ≡ nodes_in (term t n)
  total zero n h l = absurd (omega arith)
  total (suc f) n h l =
      let a = sum_cong (count t) (λ m. times m (term t n)) (λ m. is m n + kids (kind t n) t n (λ c. times m (term t c))) (λ m. times_at n m l) in
      let b = sum_add (count t) (λ m. is m n) (λ m. kids (kind t n) t n (λ c. times m (term t c))) in
      let c = sum_is (count t) n l in
      let d = sum_kids t n (kind t n) (count t) (λ m c. times m (term t c)) in
      let e = kids_cong t n (kind t n) (λ c. sum_to (count t) (λ m. times m (term t c))) (λ c. nodes_in (term t c)) (λ c k. let x = is_tree t q n c l k in total f c (omega arith) x.1) in
      let g = nodes_at n l in
      omega arith

  few_nodes : (n : ℕ) → n < count t → nodes_in (term t n) ≤ count t - n
  few_nodes n l =
      let a = total (count t) n (omega arith) l in
      let b = sum_bound (count t) n (λ m. times m (term t n)) (λ m k. low_at n m l k) (λ m k. at_most_once n l (suc m) m (omega arith) k) in
      omega arith

-- what a term unfolds to stands in different nodes
parts_few : (a : Term) → particles_in a + (boxes_in a + new_names_in a) ≤ nodes_in a
unfolding nodes_in
parts_few (nil n) = omega arith
parts_few (par n a b) = let x = parts_few a in let y = parts_few b in omega arith
parts_few (box n x a) = let y = parts_few a in omega arith
parts_few (new n x a) = let y = parts_few a in omega arith
parts_few (out n c g v) = omega arith
parts_few (inp n r c g p a) = omega arith

-- AT MOST 256 OF EACH
pub unfolds_few : (t : Table) → Passes t → (n : ℕ) → n < count t → particles_in (term t n) + (boxes_in (term t n) + new_names_in (term t n)) ≤ 256
unfolds_few t p n l =
    let f = no_fault t p in
    let a = count_few t f.0 f.1 in
    let b = few_nodes t (passes_checked t p) n l in
    let c = parts_few (term t n) in
    omega arith
