-- The rows that go, and 17 by the counts: a law for each way that the code goes.
use mathlib.Core.Path.{◌≡◌, refl, sym, ap, subst, ◌∙◌}
use mathlib.Core.Bool.{Bool, true, false, cond}
use mathlib.Core.List.{List}
use Prim.Native.Nat.{ℕ, ◌+◌, ◌-◌, ◌<◌, ◌≤◌, min, max}
use native.Mathlib.Omega.{arith}
use borrow.Author.Tests.{lt-ltb, le-ltb, ltb-true, ltb-false}
use lib.Dec.{leb, ltb}
use lib.ListN.{length, drop}
use Rattle.model.specs.Basics.{◌&◌, remove}
use Rattle.model.specs.Table.{Term}
use Rattle.model.specs.Side.{Particle}
use Rattle.model.specs.Step.{without}
use Rattle.scopes.specs.declared.unfolded.Unfolded.{Unfolded}
use Rattle.scopes.specs.Unfolded.{UnfoldsTo}
use Rattle.sides.specs.Layout.{view_rows, fits_rows}
use Rattle.sides.specs.Stored.{row_gone}
use Rattle.sides.proofs.Storing.{gone_length}
use Rattle.sides.proofs.Putting.{gone_view, gone_fits}
use Rattle.sides.proofs.Behind.{behind_gone}
use Rattle.meeting.specs.Meeting.{Apart, RowsLeft, room_for}

-- how many rows are left
pub left_is : (n : ℕ) {replicated b : Bool} → replicated ≡ b → n - cond b 1 2 ≡ n - cond replicated 1 2
left_is n e = ap (λ (x : Bool). n - cond x 1 2) (sym e)

module _ {l : List ℕ} {n i j : ℕ} (A : Apart l n i j) {replicated : Bool} {m : List ℕ} where
  -- a replicated input stays
  pub output_gone : replicated ≡ true → m ≡ row_gone l i n → RowsLeft replicated l n i j m
  output_gone e h =
      subst (λ (x : Bool). RowsLeft x l n i j m) (sym e)
      (record {
        view = ap (λ (x : List ℕ). view_rows x (n - 1)) h ∙ gone_view l i n A.long A.held_i A.few;
        fits = λ f. ap (λ (x : List ℕ). fits_rows x (n - 1)) h ∙ gone_fits l i n A.long A.held_i A.few f;
        behind = ap (drop 4608) h ∙ behind_gone l i n A.held_i A.few;
        long = ap length h ∙ gone_length l i n;
      })

  -- any other goes too: row a, then row b of those that are left
  module _ (e : replicated ≡ false) (a b k : ℕ) (ha : a < n) (hb : b < n - 1) (ke : k ≡ n - 1) (w : List ℕ) (we : w ≡ row_gone l a n) (me : m ≡ row_gone w b k) where
    w_long : length w ≡ 5184
    w_long = ap length we ∙ gone_length l a n ∙ A.long

    few : n - 1 ≤ 32
    few = omega (arith, A.few)

    now : m ≡ row_gone w b (n - 1)
    now = me ∙ ap (row_gone w b) ke

    last : n - 1 - 1 ≡ n - 2
    last = omega arith

    pub both_gone : remove (remove (view_rows l n) a) b ≡ without false (view_rows l n) i j → RowsLeft replicated l n i j m
    both_gone q =
        let first : view_rows w (n - 1) ≡ remove (view_rows l n) a = ap (λ (x : List ℕ). view_rows x (n - 1)) we ∙ gone_view l a n A.long ha A.few in
        let second : view_rows m (n - 1 - 1) ≡ remove (view_rows w (n - 1)) b = ap (λ (x : List ℕ). view_rows x (n - 1 - 1)) now ∙ gone_view w b (n - 1) w_long hb few in
        subst (λ (x : Bool). RowsLeft x l n i j m) (sym e)
        (record {
          view = ap (view_rows m) (sym last) ∙ second ∙ ap (λ (x : List Particle). remove x b) first ∙ q;
          fits = λ f.
              let one : fits_rows w (n - 1) ≡ true = ap (λ (x : List ℕ). fits_rows x (n - 1)) we ∙ gone_fits l a n A.long ha A.few f in
              ap (fits_rows m) (sym last) ∙ ap (λ (x : List ℕ). fits_rows x (n - 1 - 1)) now ∙ gone_fits w b (n - 1) w_long hb few one;
          behind = ap (drop 4608) now ∙ behind_gone w b (n - 1) hb few ∙ ap (drop 4608) we ∙ behind_gone l a n ha A.few;
          long = ap length now ∙ gone_length w b (n - 1) ∙ ap length we ∙ gone_length l a n;
        })

  module _ (e : replicated ≡ false) {k : ℕ} {w : List ℕ} where
    pub gone_below : i < j → (k ≡ n - 1) × (w ≡ row_gone l j n) → m ≡ row_gone w i k → RowsLeft replicated l n i j m
    gone_below h (ke, we) me =
        both_gone e j i k A.held_j (omega (arith, A.held_j)) ke w we me
        (sym (ap (λ (z : Bool). cond z (remove (remove (view_rows l n) j) i) (remove (remove (view_rows l n) i) j)) (lt-ltb i j h)))

    pub gone_above : j ≤ i → (k ≡ n - 1) × (w ≡ row_gone l i n) → m ≡ row_gone w j k → RowsLeft replicated l n i j m
    gone_above h (ke, we) me =
        both_gone e i j k A.held_i (above h) ke w we me
        (sym (ap (λ (z : Bool). cond z (remove (remove (view_rows l n) j) i) (remove (remove (view_rows l n) i) j)) (le-ltb i j h)))
      where
        above : j ≤ i → j < n - 1
        above g = omega (arith, A.held_i, A.other)

    -- the higher of the two first
    pub gone_pair : {a b : ℕ} → a ≡ max i j → b ≡ min i j → (k ≡ n - 1) × (w ≡ row_gone l a n) → m ≡ row_gone w b k → RowsLeft replicated l n i j m
    gone_pair {a} {b} ae be (ke, we) me = go (ltb i j) refl
      where
        go : (c : Bool) → ltb i j ≡ c → RowsLeft replicated l n i j m
        go true q =
            let h = ltb-true i j q in
            let first : a ≡ j = omega (arith, ae, h) in
            let second : b ≡ i = omega (arith, be, h) in
            gone_below h (ke, we ∙ ap (λ (x : ℕ). row_gone l x n) first) (me ∙ ap (λ (x : ℕ). row_gone w x k) second)
        go false q =
            let h = ltb-false i j q in
            let first : a ≡ i = omega (arith, ae, h) in
            let second : b ≡ j = omega (arith, be, h) in
            gone_above h (ke, we ∙ ap (λ (x : ℕ). row_gone l x n) first) (me ∙ ap (λ (x : ℕ). row_gone w x k) second)

-- 17 by the counts
pub room_is : (a : Term) (particles boxes minted : ℕ) (u : Unfolded) → UnfoldsTo a u →
    (r : Bool) → r ≡ leb (particles + u.particles) 32 & (leb (boxes + u.boxes) 16 & leb (minted + u.names) 256) → r ≡ room_for a particles boxes minted
room_is a particles boxes minted u h r e = rw (← h.particles, ← h.boxes, ← h.names) e
