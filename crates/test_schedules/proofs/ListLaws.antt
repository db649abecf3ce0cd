-- Laws of words stored in a list from a place on.
use borrow.Rule.Slice.PartMut.{post_of, put_mid, Post-is}
use Rattle.std.proofs.Common.{subst, zero, take, take_all, length-take-le, take-append-drop, ◌≡◌, ℕ, suc, ◌+◌, ◌-◌, ◌*◌, ◌<◌, ◌≤◌, min, Bool, true, false, leb, List, [], ◌∷◌, ◌++◌, length, drop, set, sym, refl, ap, ◌∙◌, add-zero, add-suc, suc-add, add-one, arith, length-append, leb-false, leb-true}
use mathlib.Core.List.{append_assoc}
use lib.Seq.{sets, sets-eq, length-sets, set_out}
use Rattle.test_schedules.specs.Lists.{Added, times, nodes_from, Turns}

-- words past the end are left out
pub past : (ws l : List ℕ) (a : ℕ) → length l ≤ a → sets l a ws ≡ l
past [] l a h = refl
past (w ∷ ws) l a h =
    ap (λ (r : List ℕ). sets r (suc a) ws) (set_out l a w h) ∙ past ws l (suc a) (omega arith)

-- a run of stores after a run is one run
twice : (xs ys l : List ℕ) (a : ℕ) → sets (sets l a xs) (a + length xs) ys ≡ sets l a (xs ++ ys)
twice [] ys l a = ap (λ (k : ℕ). sets l k ys) (add-zero a)
twice (x ∷ xs) ys l a =
    let next : a + suc (length xs) ≡ suc a + length xs = add-suc a (length xs) ∙ sym (suc-add a (length xs)) in
    ap (λ (k : ℕ). sets (sets (set l a x) (suc a) xs) k ys) next ∙ twice xs ys (set l a x) (suc a)

-- words from the end on, or from past it, are left out alike
clipped_if : (t : Bool) (ys l : List ℕ) (a b : ℕ) → b ≡ min a (length l) → leb a (length l) ≡ t → sets l b ys ≡ sets l a ys
clipped_if true ys l a b e h = let within = leb-true a (length l) h in ap (λ (k : ℕ). sets l k ys) (omega arith)
clipped_if false ys l a b e h = let over = leb-false a (length l) h in past ys l b (omega arith) ∙ sym (past ys l a (omega arith))

clipped : (ys l : List ℕ) (a b : ℕ) → b ≡ min a (length l) → sets l b ys ≡ sets l a ys
clipped ys l a b e = clipped_if (leb a (length l)) ys l a b e refl

-- words and others behind them are one list of words
pub joined : {old mid new xs ys : List ℕ} {a b c : ℕ} → Added old a xs b mid → Added mid b ys c new → Added old a (xs ++ ys) c new
joined {old} {mid} {xs = xs} {ys} {a} {b} f g =
    let same : length mid ≡ length old = ap length f.words ∙ length-sets old a xs in
    record {
      end = omega (arith, length-append xs ys, f.end, g.end);
      words = g.words ∙ clipped ys mid (a + length xs) b (omega (arith, f.end)) ∙ ap (λ (l : List ℕ). sets l (a + length xs) ys) f.words ∙ twice xs ys old a;
    }

-- the words that the list has room for are as good as all of them
cut_if : (t : Bool) (ws l : List ℕ) (a n : ℕ) → a ≤ length l → n ≡ min (length ws) (length l - a) → leb (length ws) n ≡ t → sets l a (take n ws) ≡ sets l a ws
cut_if true ws l a n h m t = let all = leb-true (length ws) n t in ap (sets l a) (take_all n ws (omega (arith, all)))
cut_if false ws l a n h m t =
    let over = leb-false (length ws) n t in
    let long : length (take n ws) ≡ n = length-take-le n ws (omega (arith, over)) in
    let held = length-sets l a (take n ws) in
    sym (past (drop n ws) (sets l a (take n ws)) (a + length (take n ws)) (omega (arith, long, held, over, m))) ∙ twice (take n ws) (drop n ws) l a ∙ ap (sets l a) (take-append-drop n ws)

-- the part of the list from `a` on, as far as the words go, with the words copied over it
pub copied : (ws l : List ℕ) (at a n : ℕ) → a ≡ min at (length l) → n ≡ min (length ws) (length l - a) → put_mid a (a + n - a) l (take n ws) ≡ sets l at ws
copied ws l at a n e m =
    let long : length (take n ws) ≡ n = length-take-le n ws (omega (arith, m)) in
    let rest : post_of a (a + n - a) l ≡ drop (a + length (take n ws)) l = Post-is a (a + n) l (omega arith) ∙ ap (λ (k : ℕ). drop k l) (omega (arith, long)) in
    ap (λ (r : List ℕ). take a l ++ (take n ws ++ r)) rest
    ∙ sym (append_assoc (take a l) (take n ws) _)
    ∙ sym (sets-eq (take n ws) l a (omega (arith, long, e, m)))
    ∙ cut_if (leb (length ws) n) ws l a n (omega (arith, e)) m refl
    ∙ clipped ws l at a e

-- one time more
pub more_times : (n : ℕ) (ws : List ℕ) → times n ws ++ ws ≡ times (n + 1) ws
unfolding times
more_times n ws = rw (add-one n)

pub no_times : (ws : List ℕ) → times 0 ws ≡ []
unfolding times
no_times ws = refl

-- the nodes from the next on, after one is stored
pub next_node : (f : ℕ → List ℕ) (l mid : List ℕ) (k b : ℕ) → length (f k) ≡ 5 → k < b → mid ≡ sets l (5 * k) (f k) → sets mid (5 * (k + 1)) (nodes_from f (k + 1) (b - (k + 1))) ≡ sets l (5 * k) (nodes_from f k (b - k))
unfolding nodes_from
next_node f l mid k b five h e =
    let left : b - k ≡ suc (b - (k + 1)) = omega arith in
    let place : 5 * (k + 1) ≡ 5 * k + length (f k) = omega arith in
    let rest = nodes_from f (suc k) (b - (k + 1)) in
    let here : sets mid (5 * (k + 1)) rest ≡ sets l (5 * k) (f k ++ rest) = ap (λ (m : List ℕ). sets m (5 * (k + 1)) rest) e ∙ ap (λ (p : ℕ). sets (sets l (5 * k) (f k)) p rest) place ∙ twice (f k) rest l (5 * k) in
    ap (λ (p : ℕ). sets mid (5 * (k + 1)) (nodes_from f p (b - (k + 1)))) (add-one k) ∙ here ∙ sym (ap (λ (n : ℕ). sets l (5 * k) (nodes_from f k n)) left)

-- no node is left
pub last_node : (f : ℕ → List ℕ) (l : List ℕ) (k b : ℕ) → b ≤ k → sets l (5 * k) (nodes_from f k (b - k)) ≡ l
unfolding nodes_from
last_node f l k b h =
    let none : b - k ≡ 0 = omega arith in
    ap (λ (n : ℕ). sets l (5 * k) (nodes_from f k n)) none

-- equal words
pub spelled : {old new xs ys : List ℕ} {a b : ℕ} → xs ≡ ys → Added old a xs b new → Added old a ys b new
spelled e f = rw e at f

-- no words behind words
pub begun : {old new : List ℕ} {a b : ℕ} → Added old a [] b new → Added new b [] b new
begun f = record { end = omega (arith, f.end, ap length f.words); words = refl }

-- turns, one after another
module _ (turn : (old : List ℕ) (at k next : ℕ) (new : List ℕ) → Type 0) (k : ℕ) where
  pub no_turns : (n : ℕ) (old : List ℕ) (at : ℕ) → n ≡ 0 → Turns turn k n old at at old
  unfolding Turns
  no_turns zero old at e = (refl, refl)
  no_turns (suc n) old at e = absurd (omega arith)

  pub more_turns : (n m j at e next : ℕ) (old mid new : List ℕ) → m ≡ suc n → j ≡ k + n → Turns turn k n old at e mid → turn mid e j next new → Turns turn k m old at next new
  unfolding Turns
  more_turns n m j at e next old mid new p q ts t = rw (p) (e, mid, ts, subst (λ (i : ℕ). turn mid e i next new) q t)

  pub as_many_turns : (n m at next : ℕ) (old new : List ℕ) → n ≡ m → Turns turn k n old at next new → Turns turn k m old at next new
  as_many_turns n m at next old new p ts = subst (λ (i : ℕ). Turns turn k i old at next new) p ts

-- a loop over the numbers from a to below b that ends at k has made b - a turns
all_made_if : (t : Bool) (a b k : ℕ) → leb a b ≡ t → a ≤ k → (a ≤ b → k ≤ b) → (b ≤ a → k ≡ a) → b ≤ k → k - a ≡ b - a
all_made_if true a b k e after within none end = let most = within (leb-true a b e) in omega arith
all_made_if false a b k e after within none end = let less = leb-false a b e in let same = none (omega (arith, less)) in omega arith

pub all_made : (a b k : ℕ) → a ≤ k → (a ≤ b → k ≤ b) → (b ≤ a → k ≡ a) → b ≤ k → k - a ≡ b - a
all_made a b k = all_made_if (leb a b) a b k refl
