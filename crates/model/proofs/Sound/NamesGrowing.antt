-- The names known outside after a step: those before it, and those of its label.
use mathlib.Core.Path.{◌≡◌, refl, sym, ap, ◌∙◌, subst}
use mathlib.Core.Bool.{Bool, true, false, not, ◌||◌, false≢true}
use mathlib.Core.List.{List, [], ◌∷◌, ◌++◌}
use mathlib.Core.Logic.{◌⊎◌, inl, inr, ⊎_elim}
use Prim.Native.Nat.{ℕ, ◌<◌}
use native.Mathlib.Omega.{arith}
use borrow.Author.Tests.{leb-true, eqb-true, eq-eqb, not-false}
use lib.Dec.{eqb, T}
use Rattle.calculus.specs.Syntax.{Val, Tag, plain, parent}
use Rattle.calculus.specs.Transitions.{Label, tau, send, recv, In, mem, names, lnames}
use Rattle.model.specs.Basics.{◌or◌, Res, refuse, done}
use Rattle.model.specs.Values.{is_minted, is_outside}
use Rattle.model.specs.Wrapper.{has_side}
use Rattle.model.specs.Side.{State, side, put_side}
use Rattle.model.specs.Load.{Composition, wrapper_of}
use Rattle.model.specs.WellFormed.{counts, ready}
use Rattle.model.specs.Step.{Step, Moved, silent, enters, leaves, logs, labelled, answer_of, side_after, marks, mark_all, marked, known, enter, local, step}
use Rattle.model.specs.Step.{Label as SLabel}
use Rattle.model.specs.Process.{vwords, known_of}
use Rattle.model.specs.Agreement.{foreign, some_name, enterable, Asks, asks_in, outside_in, NamesGrow}
use Rattle.calculus.proofs.FreeNames.{mem_left, mem_right, mem_cases, or_right, or_cases}
use Rattle.calculus.proofs.Parallels.{T_true}
use Rattle.model.proofs.Basics.Tests.{alt, has_every, need_done, choose_done, or_cases as Bool-cases, or_right as bool-right}
use Rattle.model.proofs.Formed.Keeping.{is_log}
use Rattle.model.proofs.Formed.Invariant.{settled_done, which, copies_log, known_held, keeps}
use Rattle.model.proofs.Independent.Independence.{left_size, moved, step_has, step_lacks}
use Rattle.model.proofs.Processes.KnownNames.{is_true, every_mem, keep_in, keep_out, KnownBy, is_low, is_brought, has_left, known_by, by_known, minted_is, held_minted}
use Rattle.model.proofs.Processes.StateTree.{few, inlet_low, outlet_low}
use Rattle.model.proofs.Sound.NamesLeaving.{marked_all}
use Rattle.model.proofs.Basics.Names.{minted_range, held_below}
use Rattle.model.proofs.Processes.ValueWords.{names_words}
use Rattle.model.proofs.Sound.Labels.{SaysInv, says_inv, T_not, enterable_is}
use Rattle.model.proofs.Sound.SideViews.{put_one, put_or, pos, lt}
use Rattle.model.proofs.Sound.Sound.{asks_of}

-- a name known outside is low, brought, or minted and marked as left
data Knows (X : List ℕ) (s : State) (z : ℕ) : Type 0 where
  low : z < 81 → Knows X s z
  brought : In X z → Knows X s z
  left : is_minted z ≡ true → known s z ≡ true → Knows X s z

knows_of : (b : Composition) (s : State) → ready b s ≡ true → (X : List ℕ) (z : ℕ) → In (known_of X s) z → Knows X s z
knows_of b s e X z h = go (known_by X s z h)
  where
    go : KnownBy X s z → Knows X s z
    go (is_low l) = low l
    go (is_brought i) = brought i
    go (has_left i k) = left (minted_is s (few b s e) z i) k

of_knows : (b : Composition) (s : State) → ready b s ≡ true → (X : List ℕ) (z : ℕ) → Knows X s z → In (known_of X s) z
of_knows b s e X z (low l) = by_known X s z (is_low l)
of_knows b s e X z (brought i) = by_known X s z (is_brought i)
of_knows b s e X z (left m k) = by_known X s z (has_left (held_minted b s z (held_below (counts s) z m (known_held b s e z k m))) k)

-- a name of a label's value is low, from outside or minted
some_none : (f : ℕ → Bool) (l : List ℕ) → some_name f l ≡ false → (z : ℕ) → In l z → f z ≡ false
some_none f [] h z i = absurd i
some_none f (x ∷ l) h z i = ⊎_elim (λ q. ap f (eqb-true z x (T_true _ q)) ∙ (fails (f x) (some_name f l) h).0) (λ q. some_none f l (fails (f x) (some_name f l) h).1 z q) (or_cases (eqb z x) (mem z l) i)
  where
    fails : (a c : Bool) → a || c ≡ false → (a ≡ false) × (c ≡ false)
    fails true c e = absurd (false≢true (sym e))
    fails false c e = (refl, e)

label_name : (u : Val ℕ) → T (not (foreign u)) → (z : ℕ) → In (names u) z → (z < 81) ⊎ ((is_minted z ≡ true) ⊎ (is_outside z ≡ true))
label_name u h z i =
    let e = not-false (enterable z) (some_none (λ n. not (enterable n)) (names u) (T_not (foreign u) h) z i) in
    ⊎_elim (λ p. inl (let l = leb-true z 63 p in omega arith)) (λ p. inr (alt _ _ p)) (alt _ _ (sym (enterable_is z) ∙ e))

-- a label with which names leave
abbrev Leaves : SLabel → Type 0
Leaves silent = ⊥
Leaves enters = ⊥
Leaves leaves = Unit {0}
Leaves logs = Unit {0}

leaves_marks : (l : SLabel) → Leaves l → (v : List ℕ) (k : List Bool) → marks l v k ≡ mark_all k v
leaves_marks silent h v k = absurd h
leaves_marks enters h v k = absurd h
leaves_marks leaves h v k = refl
leaves_marks logs h v k = refl

-- what an entry asks

asked : {k : Step} {x : ℕ} {o : Tag ℕ} {v : Val ℕ} → Asks k (recv x o v) → (k.kind ≡ 1) × (k.words ≡ vwords v)
asked (asks_in p q) = (p, q)

module _ (b : Composition) (s : State) (e : ready b s ≡ true) (k : Step) (h : has_side (wrapper_of b) k.side ≡ true) where
  abbrev n : ℕ
  n = k.side

  abbrev after : Moved → State
  after m = put_side s k.side (side_after (side s k.side) (done m))

  -- the marks after a label
  still : (m : Moved) → (Leaves m.label → ⊥) → (z : ℕ) → known (after m) z ≡ known s z
  still m other z = put_one (λ o. marked o.left z) s n (side_after (side s n) (done m)) (go m.label refl)
    where
      go : (l : SLabel) → m.label ≡ l → marked (side_after (side s k.side) (done m)).left z ≡ marked (side s k.side).left z
      go silent q = ap (λ (l : SLabel). marked (marks l m.val (side s k.side).left) z) q
      go enters q = ap (λ (l : SLabel). marked (marks l m.val (side s k.side).left) z) q
      go leaves q = absurd (other (subst Leaves (sym q) tt))
      go logs q = absurd (other (subst Leaves (sym q) tt))

  marks_more : (m : Moved) → Leaves m.label → (z : ℕ) → is_minted z ≡ true → known (after m) z ≡ known s z || mem z m.val
  marks_more m q z mi = put_or (λ o. marked o.left z) s n (side_after (side s n) (done m)) (mem z m.val) (pos b s e n h) (lt b s e n h)
      (ap (λ (k : List Bool). marked k z) (leaves_marks m.label q m.val (side s n).left) ∙ marked_all m.val (side s n).left z (left_size b s n e (which b.wrapper n h)) mi)

  -- what enters is known: 12
  entered_known : (m : Moved) → moved b s k ≡ done m → k.kind ≡ 1 → (z : ℕ) → In k.words z → is_minted z ≡ true → known s z ≡ true
  unfolding local enter
  entered_known m q k1 z i mi = ⊎_elim (λ p. checked (need_done _ _ _ _ p.1).1) (λ p. absurd (false≢true (sym p.0 ∙ is_one))) (choose_done _ _ _ _ (settled_done _ m q).is)
    where
      is_one : eqb k.kind 1 ≡ true
      is_one = eq-eqb k.kind 1 k1

      checked : enter (wrapper_of b).copies (known s) (side s k.side).core k.words ≡ done m → known s z ≡ true
      checked en =
          let a = need_done _ _ _ _ en in
          let c = need_done _ _ _ _ a.1 in
          ⊎_elim (λ p. absurd (false≢true (sym (ap not mi) ∙ p))) (λ p. p) (alt _ _ (every_mem (λ w. not (is_minted w) or known s w) k.words z c.0 i))

  -- what has to be known of a label l that leads to a state t: what t marks as left was marked or is in l, what was marked still is, and
  -- a name of l is low, from outside, or marked in t
  module _ (t : State) (r : ready b t ≡ true) (l : Label) (X : List ℕ) where
    abbrev Grows : Type 0
    Grows = (z : ℕ) → (In (known_of (outside_in l ++ X) t) z → In (known_of X s) z ⊎ In (lnames l) z) × (In (known_of X s) z ⊎ In (lnames l) z → In (known_of (outside_in l ++ X) t) z)

    abbrev Named : ℕ → Type 0
    Named z = (z < 81) ⊎ (((is_minted z ≡ true) × (known t z ≡ true)) ⊎ (is_outside z ≡ true))

    grows : ((z : ℕ) → is_minted z ≡ true → known t z ≡ true → (known s z ≡ true) ⊎ In (lnames l) z) → ((z : ℕ) → is_minted z ≡ true → known s z ≡ true → known t z ≡ true)
        → ((z : ℕ) → In (lnames l) z → Named z) → Grows
    grows fewer more named z = (λ i. out-of-t (knows_of b t r (outside_in l ++ X) z i), ⊎_elim (λ i. into_t (knows_of b s e X z i)) (λ i. by_name i (named z i)))
      where
        out-of-t : Knows (outside_in l ++ X) t z → In (known_of X s) z ⊎ In (lnames l) z
        out-of-t (low p) = inl (of_knows b s e X z (low p))
        out-of-t (brought i) = ⊎_elim (λ p. inr (keep_out is_outside (lnames l) z p).0) (λ p. inl (of_knows b s e X z (brought p))) (mem_cases z (outside_in l) X i)
        out-of-t (left m k) = ⊎_elim (λ p. inl (of_knows b s e X z (left m p))) (λ p. inr p) (fewer z m k)

        into_t : Knows X s z → In (known_of (outside_in l ++ X) t) z
        into_t (low p) = of_knows b t r (outside_in l ++ X) z (low p)
        into_t (brought i) = of_knows b t r (outside_in l ++ X) z (brought (mem_right z (outside_in l) X i))
        into_t (left m k) = of_knows b t r (outside_in l ++ X) z (left m (more z m k))

        by_name : In (lnames l) z → Named z → In (known_of (outside_in l ++ X) t) z
        by_name i (inl p) = of_knows b t r (outside_in l ++ X) z (low p)
        by_name i (inr (inl p)) = of_knows b t r (outside_in l ++ X) z (left p.0 p.1)
        by_name i (inr (inr o)) = of_knows b t r (outside_in l ++ X) z (brought (mem_left z (outside_in l) X (keep_in is_outside (lnames l) z i o)))

  -- the names of a label on channel x with value u: x is low, and those of u are low, from outside, or minted, and then marked
  named_by : (t : State) (x : ℕ) (u : Val ℕ) → x < 81 → T (not (foreign u)) → ((z : ℕ) → In (names u) z → is_minted z ≡ true → known t z ≡ true) → (z : ℕ) → In (x ∷ names u) z →
      (z < 81) ⊎ (((is_minted z ≡ true) × (known t z ≡ true)) ⊎ (is_outside z ≡ true))
  named_by t x u l f k z i = ⊎_elim (λ p. inl (let q = eqb-true z x (T_true _ p) in omega arith))
      (λ p. ⊎_elim (λ q. inl q) (λ q. inr (⊎_elim (λ m. inl (m, k z p m)) (λ o. inr o) q)) (label_name u f z p))
      (or_cases (eqb z x) (mem z (names u)) i)

  -- a label with which names leave, on channel x with value u
  module _ (m : Moved) (r : ready b (after m) ≡ true) (ey : Leaves m.label) (u : Val ℕ) (words : m.val ≡ vwords u) (x : ℕ) (lx : x < 81) (X : List ℕ) where
    in_val : (z : ℕ) → is_minted z ≡ true → mem z m.val ≡ mem z (names u)
    in_val z mi = ap (mem z) words ∙ sym (names_words z (let q = (minted_range z mi).1 in omega arith) u)

    by_left : T (not (foreign u)) → (l : Label) → l ≡ send x (plain parent) u → Grows (after m) r l X
    by_left f l q = subst (λ (y : Label). Grows (after m) r y X) (sym q) (grows (after m) r (send x (plain parent) u) X
        (λ z mi k. ⊎_elim (λ p. inl p) (λ p. inr (or_right (eqb z x) (mem z (names u)) (is_true _ (sym (in_val z mi) ∙ p)))) (Bool-cases (known s z) (mem z m.val) (sym (marks_more m ey z mi) ∙ k)))
        (λ z mi k. marks_more m ey z mi ∙ ap (λ (t : Bool). t || mem z m.val) k)
        (named_by (after m) x u lx f (λ z i mi. marks_more m ey z mi ∙ bool-right (known s z) (mem z m.val) (in_val z mi ∙ T_true _ i))))

  by_label : (X : List ℕ) (m : Moved) → moved b s k ≡ done m → (l : Label) → Asks k l → (r : ready b (after m) ≡ true) → (y : SLabel) → m.label ≡ y → SaysInv (wrapper_of b) (labelled y n m.val) l → Grows (after m) r l X
  by_label X m q l ask r silent ey sy = subst (λ (y : Label). Grows (after m) r y X) (sym sy)
      (grows (after m) r tau X (λ z mi k. inl (sym (still m (λ c. subst Leaves ey c) z) ∙ k)) (λ z mi k. still m (λ c. subst Leaves ey c) z ∙ k) (λ z i. absurd i))
  by_label X m q l ask r enters ey sy = subst (λ (y : Label). Grows (after m) r y X) (sym sy.3)
      (grows (after m) r (recv ((wrapper_of b).inlet n) (plain parent) sy.0) X (λ z mi k. inl (sym (same z) ∙ k)) (λ z mi k. same z ∙ k)
      (named_by (after m) _ sy.0 (inlet_low b s e n h) sy.2 (λ z i mi. same z ∙ by_words z i mi)))
    where
      same : (z : ℕ) → known (after m) z ≡ known s z
      same = still m (λ c. subst Leaves ey c)

      by_words : (z : ℕ) → In (names sy.0) z → is_minted z ≡ true → known s z ≡ true
      by_words z i mi =
          let a = asked (subst (Asks k) sy.3 ask) in
          entered_known m q a.0 z (subst T (names_words z (let q = (minted_range z mi).1 in omega arith) sy.0 ∙ ap (mem z) (sym a.1)) i) mi
  by_label X m q l ask r leaves ey sy = by_left m r (subst Leaves (sym ey) tt) sy.0 sy.1 _ (outlet_low b s e n h) X sy.2 l sy.3
  by_label X m q l ask r logs ey (u, p, f, (x, y, z)) =
      let x3 = eqb-true x 3 (has_every is_log (wrapper_of b).copies x (copies_log b.wrapper) y) in
      by_left m r (subst Leaves (sym ey) tt) u p x (omega arith) X f l z

pub names_grow : NamesGrow
unfolding NamesGrow
names_grow b s X k l e sy z = go (has_side (wrapper_of b) k.side) refl
  where
    Grown : State → Type 0
    Grown t = (In (known_of (outside_in l ++ X) t) z → In (known_of X s) z ⊎ In (lnames l) z) × (In (known_of X s) z ⊎ In (lnames l) z → In (known_of (outside_in l ++ X) t) z)

    go : (t : Bool) → has_side (wrapper_of b) k.side ≡ t → Grown (step b s k).after
    go false h = absurd (rw (step_lacks b s k e h) at (says_inv sy))
    go true h = rw (step_has b s k e h) (by_result (moved b s k) refl (rw (step_has b s k e h) at (says_inv sy)) (rw (step_has b s k e h) at (keeps b s k e)))
      where
        by_result : (r : Res Moved) → moved b s k ≡ r → SaysInv (wrapper_of b) (answer_of k.side r) l → ready b (put_side s k.side (side_after (side s k.side) r)) ≡ true
            → Grown (put_side s k.side (side_after (side s k.side) r))
        by_result (refuse c) q si r = absurd si
        by_result (done m) q si r = by_label b s e k h X m q l (asks_of b s e k l sy) r m.label refl si z
