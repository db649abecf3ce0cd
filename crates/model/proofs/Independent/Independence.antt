-- Independence of a closed group of sides, under any wrapper: what the group sees of a run is what it sees of its own steps alone.
use mathlib.Core.Path.{◌≡◌, refl, sym, ap, ap₂, ◌∙◌, subst}
use mathlib.Core.Bool.{Bool, true, false, not, ◌&&◌, cond, false≢true}
use mathlib.Core.List.{List, [], ◌∷◌, ◌++◌, map}
use mathlib.Core.Logic.{⊎_elim}
use Prim.Native.Nat.{ℕ, zero, suc, ◌*◌, ◌<◌, ◌≤◌}
use native.Mathlib.Omega.{arith}
use borrow.Author.Tests.{leb-true, eqb-true, eq-eqb}
use lib.Dec.{eqb}
use lib.ListN.{length, get_or, set, replicate}
use lib.Seq.{get_or-set_same}
use Rattle.model.specs.Basics.{◌&◌, ◌or◌, choose, bind, Res, refuse, done, has, every, one_of}
use Rattle.model.specs.Values.{is_minted}
use Rattle.model.specs.Table.{Table}
use Rattle.model.specs.Wrapper.{Route, all_sides, described, has_side}
use Rattle.model.specs.Side.{State, Side, Core, start_side, no_side, side, put_side}
use Rattle.model.specs.Load.{Composition, Setting, setting, wrapper_of, table, start, start_of}
use Rattle.model.specs.WellFormed.{wf_state, wf_side, wf_side_of, is_no_side, shelf_of, ready}
use Rattle.model.specs.Step.{Step, Label, silent, enters, leaves, logs, Moved, labelled, refusal, step, settled, local, route_to, takes, enter, marks, marked, mark_all, mark1, mark_of, answer_of, side_after, known}
use Rattle.model.specs.Runs.{is_of, steps_of, sees, after_all, left_by, left_earlier, premise, is_closed, SameFor, GroupIndependence, Independence}
use Rattle.model.proofs.Basics.Sides.{put_same, put_other, put_agree}
use Rattle.model.proofs.Formed.Invariant.{which, positive, keeps, mark1_size}
use Rattle.model.proofs.Formed.Starts.{load_state, starts}
use Rattle.model.proofs.Basics.Tests.{append-nil, or_cases, or_right, has_append, has_every, fst, snd, both, alt, choose_done, head_eq, tail_eq}
use Rattle.model.proofs.Formed.Keeping.{done_inj}

-- LISTS

-- an element that passes a test is one of them, where what stands for none does not pass it
get_one : {A : Type 0} (f : A → Bool) (l : List A) (i : ℕ) (d : A) → f d ≡ false → f (get_or l i d) ≡ true → one_of f l ≡ true
get_one f [] i d h e = absurd (false≢true (sym h ∙ e))
get_one f (x ∷ l) zero d h e = rw e
get_one f (x ∷ l) (suc i) d h e = or_right (f x) (one_of f l) (get_one f l i d h e)

none_set : (n i : ℕ) → get_or (replicate n false) i false ≡ false
none_set zero i = refl
none_set (suc n) zero = refl
none_set (suc n) (suc i) = none_set n i

-- WHO MAY SEND INTO A GROUP: nobody outside it
route_source : (g : List ℕ) (rs : List Route) (n j : ℕ) (r : Route) → every (λ r. not (has r.receiver g) or has r.source g) rs ≡ true → has n g ≡ true → route_to rs n j ≡ done r → has r.source g ≡ true
unfolding route_to
route_source g [] n j r c h e = absurd (let z : ◌≡◌ {A = ℕ} 0 1 = cc in omega arith)
route_source g (q ∷ rs) n j r c h e = ⊎_elim (λ p. this p.0 (done_inj p.1)) (λ p. route_source g rs n j r (snd _ _ c) h p.1) (choose_done _ _ _ _ e)
  where
    this : eqb q.receiver n & eqb q.j j ≡ true → q ≡ r → has r.source g ≡ true
    this t same =
        let at : has q.receiver g ≡ true = ap (λ (m : ℕ). has m g) (eqb-true q.receiver n (fst _ _ t)) ∙ h in
        rw (← same) (⊎_elim (λ u. absurd (false≢true (rw at at u))) (λ u. u) (alt _ _ (fst _ _ c)))

-- ONE STEP of a side reads the rest only by the names that may enter and the shelves of its routes
local_same : (c : Setting) (k k' : ℕ → Bool) (sh sh' : ℕ → List (List ℕ)) (s : Core) (x : Step) →
    (eqb x.kind 1 ≡ true → (every (λ w. not (is_minted w) or k w) x.words ≡ true) × (every (λ w. not (is_minted w) or k' w) x.words ≡ true)) →
    ((r : Route) → route_to c.wrapper.routes c.side x.j ≡ done r → sh r.source ≡ sh' r.source) →
    local c k sh s x ≡ local c k' sh' s x
unfolding local enter choose bind
local_same c k k' sh sh' s x h q = go (eqb x.kind 1) refl
  where
    taking : (t : Res Route) → route_to c.wrapper.routes c.side x.j ≡ t → bind t (λ r. takes r.source (sh r.source) s x.i) ≡ bind t (λ r. takes r.source (sh' r.source) s x.i)
    taking (refuse n) e = refl
    taking (done r) e = ap (λ (l : List (List ℕ)). takes r.source l s x.i) (q r e)

    go : (t : Bool) → eqb x.kind 1 ≡ t → local c k sh s x ≡ local c k' sh' s x
    go true e = rw (e, local, (h e).0, (h e).1)
    go false e = rw (e, local, taking (route_to c.wrapper.routes c.side x.j) refl)

-- TWO STATES THAT AGREE ON A GROUP
Agree : List ℕ → State → State → Type 0
Agree g s s'' = (n : ℕ) → has n g ≡ true → side s n ≡ side s'' n

-- the names seen are marked by sides of the group
Covers : List ℕ → List ℕ → State → Type 0
Covers g seen s = (w : ℕ) → has w seen ≡ true → is_minted w ≡ true → (n : ℕ) × (has n g ≡ true) × (marked (side s n).left w ≡ true)

covers_agree : (g seen : List ℕ) (s s'' : State) → Agree g s s'' → Covers g seen s → Covers g seen s''
unfolding Agree Covers
covers_agree g seen s s'' a c w h m = let r = c w h m in (r.0, r.1, ap (λ (o : Side). marked o.left w) (sym (a r.0 r.1)) ∙ r.2)

covers_known : (g seen : List ℕ) (s : State) → Covers g seen s → (w : ℕ) → has w seen ≡ true → is_minted w ≡ true → known s w ≡ true
unfolding Covers
covers_known g seen s c w h m = let r = c w h m in by r.0 r.2
  where
    by : (n : ℕ) → marked (side s n).left w ≡ true → known s w ≡ true
    by zero e = absurd (false≢true (sym (none_set (256 * length all_sides) (mark_of w)) ∙ e))
    by (suc n) e = get_one (λ o. marked o.left w) s.sides n no_side (none_set (256 * length all_sides) (mark_of w)) e

returns_known : (seen : List ℕ) (k : ℕ → Bool) → ((w : ℕ) → has w seen ≡ true → is_minted w ≡ true → k w ≡ true) →
    (ws : List ℕ) → left_earlier seen ws ≡ true → every (λ w. not (is_minted w) or k w) ws ≡ true
unfolding ◌or◌
returns_known seen k h [] e = refl
returns_known seen k h (w ∷ ws) e =
    both _ _ (go (is_minted w) refl (fst _ _ e)) (returns_known seen k h ws (snd _ _ e))
  where
    go : (t : Bool) → is_minted w ≡ t → not (is_minted w) or has w seen ≡ true → not (is_minted w) or k w ≡ true
    go true m p = rw (m, h w (rw m at p) m)
    go false m p = rw m

ready_size : (b : Composition) (s : State) → ready b s ≡ true → length s.sides ≡ 2
unfolding ready wf_state
ready_size b s e = eqb-true (length s.sides) 2 (fst _ _ (snd _ _ e))

abbrev pub moved : Composition → State → Step → Res Moved
moved b s x = settled (local (setting b x.side) (known s) (shelf_of s) (side s x.side).core x)

pub step_has : (b : Composition) (s : State) (x : Step) → ready b s ≡ true → has_side (wrapper_of b) x.side ≡ true →
    step b s x ≡ record { answer = answer_of x.side (moved b s x); after = put_side s x.side (side_after (side s x.side) (moved b s x)) }
unfolding step ◌&◌
step_has b s x e h = rw (e, h, step)

pub step_lacks : (b : Composition) (s : State) (x : Step) → ready b s ≡ true → has_side (wrapper_of b) x.side ≡ false → step b s x ≡ record { answer = refusal 10 x.side; after = s }
unfolding step ◌&◌
step_lacks b s x e h = rw (e, h, step)

-- MARKS
pub minted_place : (w : ℕ) → is_minted w ≡ true → mark_of w < 512
minted_place w e = ⊎_elim
    (λ p. omega (arith, leb-true 65536 w (fst _ _ p), leb-true w 65791 (snd _ _ p)))
    (λ p. omega (arith, leb-true 131072 w (fst _ _ p), leb-true w 131327 (snd _ _ p)))
    (alt _ _ e)

-- a mark stays
set_keeps : (l : List Bool) (i j : ℕ) → get_or l j false ≡ true → get_or (set l i true) j false ≡ true
set_keeps [] i j e = e
set_keeps (x ∷ xs) zero zero e = refl
set_keeps (x ∷ xs) zero (suc j) e = e
set_keeps (x ∷ xs) (suc i) zero e = e
set_keeps (x ∷ xs) (suc i) (suc j) e = set_keeps xs i j e

mark1_keeps : (l : List Bool) (v w : ℕ) → marked l w ≡ true → marked (mark1 l v) w ≡ true
unfolding mark1
mark1_keeps l v w e = go (is_minted v) refl
  where
    go : (t : Bool) → is_minted v ≡ t → marked (mark1 l v) w ≡ true
    go true m = rw m (set_keeps l (mark_of v) (mark_of w) e)
    go false m = rw m e

mark1_marks : (l : List Bool) (w : ℕ) → length l ≡ 512 → is_minted w ≡ true → marked (mark1 l w) w ≡ true
unfolding mark1
mark1_marks l w n m = rw m (get_or-set_same l (mark_of w) true false (rw n (minted_place w m)))

mark_all_keeps : (vs : List ℕ) (l : List Bool) (w : ℕ) → marked l w ≡ true → marked (mark_all l vs) w ≡ true
mark_all_keeps [] l w e = e
mark_all_keeps (v ∷ vs) l w e = mark_all_keeps vs (mark1 l v) w (mark1_keeps l v w e)

mark_all_marks : (vs : List ℕ) (l : List Bool) (w : ℕ) → length l ≡ 512 → has w vs ≡ true → is_minted w ≡ true → marked (mark_all l vs) w ≡ true
mark_all_marks [] l w n h m = absurd (false≢true h)
mark_all_marks (v ∷ vs) l w n h m =
    ⊎_elim (λ p. let q : w ≡ v = eqb-true w v p in rw (← q) (mark_all_keeps vs (mark1 l w) w (mark1_marks l w n m)))
    (λ p. mark_all_marks vs (mark1 l v) w (mark1_size l v ∙ n) p m)
    (or_cases (eqb w v) (has w vs) h)

marks_keep : (t : Label) (v : List ℕ) (l : List Bool) (w : ℕ) → marked l w ≡ true → marked (marks t v l) w ≡ true
marks_keep silent v l w e = e
marks_keep enters v l w e = e
marks_keep leaves v l w e = mark_all_keeps v l w e
marks_keep logs v l w e = mark_all_keeps v l w e

after_keeps : (o : Side) (r : Res Moved) (w : ℕ) → marked o.left w ≡ true → marked (side_after o r).left w ≡ true
after_keeps o (refuse k) w e = e
after_keeps o (done m) w e = marks_keep m.label m.val o.left w e

abbrev left_by' : Label → Bool → List ℕ → List ℕ
left_by' silent u v = []
left_by' enters u v = []
left_by' leaves u v = cond u v []
left_by' logs u v = cond u v []

after_marks : (g : List ℕ) (n : ℕ) (o : Side) (r : Res Moved) (w : ℕ) → length o.left ≡ 512 → has w (left_by g (answer_of n r)) ≡ true → is_minted w ≡ true → marked (side_after o r).left w ≡ true
after_marks g n o (refuse k) w l h m = absurd (false≢true h)
after_marks g n o (done q) w l h m = go q.label (has n g) (shape q.label h)
  where
    shape : (t : Label) → has w (left_by g (labelled t n q.val)) ≡ true → has w (left_by' t (has n g) q.val) ≡ true
    shape silent h = h
    shape enters h = h
    shape leaves h = h
    shape logs h = h

    go : (t : Label) (u : Bool) → has w (left_by' t u q.val) ≡ true → marked (marks t q.val o.left) w ≡ true
    go silent u h = absurd (false≢true h)
    go enters u h = absurd (false≢true h)
    go leaves true h = mark_all_marks q.val o.left w l h m
    go leaves false h = absurd (false≢true h)
    go logs true h = mark_all_marks q.val o.left w l h m
    go logs false h = absurd (false≢true h)

-- a step of the group keeps what has left covered, with what leaves by it
covers_own : (g seen : List ℕ) (s : State) (n : ℕ) (r : Res Moved) → has n g ≡ true → 1 ≤ n → n ≤ length s.sides → length (side s n).left ≡ 512 → Covers g seen s →
    Covers g (seen ++ left_by g (answer_of n r)) (put_side s n (side_after (side s n) r))
unfolding Covers
covers_own g seen s n r h po lt l c w p m = ⊎_elim old new (has_append w seen (left_by g (answer_of n r)) p)
  where
    here : side (put_side s n (side_after (side s n) r)) n ≡ side_after (side s n) r
    here = put_same s n (side_after (side s n) r) po lt

    new : has w (left_by g (answer_of n r)) ≡ true → (k : ℕ) × (has k g ≡ true) × (marked (side (put_side s n (side_after (side s n) r)) k).left w ≡ true)
    new q = (n, h, ap (λ (o : Side). marked o.left w) here ∙ after_marks g n (side s n) r w l q m)

    old : has w seen ≡ true → (k : ℕ) × (has k g ≡ true) × (marked (side (put_side s n (side_after (side s n) r)) k).left w ≡ true)
    old q = let u = c w q m in (u.0, u.1, at u.0 u.2 (eqb u.0 n) refl)
      where
        at : (k : ℕ) → marked (side s k).left w ≡ true → (t : Bool) → eqb k n ≡ t → marked (side (put_side s n (side_after (side s n) r)) k).left w ≡ true
        at k e true q = let z : n ≡ k = sym (eqb-true k n q) in
            subst (λ (i : ℕ). marked (side (put_side s n (side_after (side s n) r)) i).left w ≡ true) z (ap (λ (o : Side). marked o.left w) here ∙ after_keeps (side s n) r w (ap (λ (i : ℕ). marked (side s i).left w) z ∙ e))
        at k e false q = ap (λ (o : Side). marked o.left w) (put_other s n k (side_after (side s n) r) (λ z. false≢true (sym q ∙ eq-eqb k n z))) ∙ e

pub left_size : (b : Composition) (s : State) (n : ℕ) → ready b s ≡ true → has n all_sides ≡ true → length (side s n).left ≡ 512
unfolding ready wf_state wf_side_of wf_side is_no_side
left_size b s n e h = go (has_side (wrapper_of b) n) (has_every (wf_side_of b s) all_sides n (snd _ _ (snd _ _ e)) h)
  where
    go : (t : Bool) → cond t (wf_side (setting b n) (Rattle.model.specs.WellFormed.counts s) (shelf_of s) (side s n)) (is_no_side (side s n)) ≡ true → length (side s n).left ≡ 512
    go true h = eqb-true (length (side s n).left) 512 (fst _ _ (fst _ _ (snd _ _ h)))
    go false h = eqb-true (length (side s n).left) 512 (fst _ _ (snd _ _ (snd _ _ (snd _ _ (snd _ _ h)))))

-- a step outside the group leaves the group as it was, and lets nothing out by its outlets
other : (g : List ℕ) (b : Composition) (s : State) (x : Step) → ready b s ≡ true → is_of g x ≡ false → Agree g (step b s x).after s × (left_by g (step b s x).answer ≡ [])
unfolding Agree
other g b s x e o = go (has_side (wrapper_of b) x.side) refl
  where
    still : (r : Res Moved) → left_by g (answer_of x.side r) ≡ []
    still (refuse k) = refl
    still (done m) = lab m.label
      where
        lab : (t : Label) → left_by g (labelled t x.side m.val) ≡ []
        lab silent = refl
        lab enters = refl
        lab leaves = rw o
        lab logs = rw o

    apart : (n : ℕ) → has n g ≡ true → (n ≡ x.side → ⊥)
    apart n h q = false≢true (sym o ∙ ap (λ (m : ℕ). has m g) (sym q) ∙ h)

    go : (t : Bool) → has_side (wrapper_of b) x.side ≡ t → ((n : ℕ) → has n g ≡ true → side (step b s x).after n ≡ side s n) × (left_by g (step b s x).answer ≡ [])
    go true h = rw (step_has b s x e h) (λ n k. put_other s x.side n _ (apart n k), still (moved b s x))
    go false h = rw (step_lacks b s x e h) (λ n k. refl, refl)

covers_step : (g seen : List ℕ) (b : Composition) (s : State) (x : Step) → ready b s ≡ true → is_of g x ≡ true → Covers g seen s → Covers g (seen ++ left_by g (step b s x).answer) (step b s x).after
covers_step g seen b s x e o c = go (has_side (wrapper_of b) x.side) refl
  where
    go : (t : Bool) → has_side (wrapper_of b) x.side ≡ t → Covers g (seen ++ left_by g (step b s x).answer) (step b s x).after
    go true h = let a = which b.wrapper x.side h in
        rw (step_has b s x e h) (covers_own g seen s x.side (moved b s x) o (positive x.side a).0 (omega (arith, (positive x.side a).1, ready_size b s e)) (left_size b s x.side e a) c)
    go false h = rw (step_lacks b s x e h, append-nil seen) c

covers_other : (g seen : List ℕ) (b : Composition) (s : State) (x : Step) → Agree g (step b s x).after s × (left_by g (step b s x).answer ≡ []) → Covers g seen s → Covers g (seen ++ left_by g (step b s x).answer) (step b s x).after
unfolding Agree
covers_other g seen b s x r c = rw (r.1, append-nil seen) (covers_agree g seen s (step b s x).after (λ n h. sym (r.0 n h)) c)

map_agree : {A : Type 0} (f h : ℕ → A) (l : List ℕ) → ((n : ℕ) → has n l ≡ true → f n ≡ h n) → map f l ≡ map h l
map_agree f h [] e = refl
map_agree {A} f h (n ∷ l) e = ap₂ (λ (a : A) (r : List A). a ∷ r) (e n (rw (eq-eqb n n refl))) (map_agree f h l (λ m q. e m (or_right (eqb m n) (has m l) q)))

-- a group of sides, two compositions with one wrapper and the same tables for the group
module _ (g : List ℕ) (b b' : Composition) (same-wrapper : b.wrapper ≡ b'.wrapper) (cl : is_closed g (wrapper_of b) ≡ true) (tb : (n : ℕ) → has n g ≡ true → table b n ≡ table b' n) where
  same_setting : (n : ℕ) → has n g ≡ true → setting b n ≡ setting b' n
  same_setting n h = ap₂ (λ (w : ℕ) (t : Table). record { wrapper = described w; side = n; table = t }) same-wrapper (tb n h)

  -- a step of the group, in both
  own : (seen : List ℕ) (s s'' : State) → ready b s ≡ true → ready b' s'' ≡ true → Agree g s s'' → Covers g seen s → (x : Step) → is_of g x ≡ true →
      (eqb x.kind 1 ≡ true → left_earlier seen x.words ≡ true) →
      ((step b s x).answer ≡ (step b' s'' x).answer) × Agree g (step b s x).after (step b' s'' x).after
  unfolding Agree
  own seen s s'' e e' a c x o p = go (has_side (wrapper_of b) x.side) refl
    where
      n : ℕ
      n = x.side

      same_moved : moved b s x ≡ moved b' s'' x
      same_moved = ap settled
          (local_same (setting b x.side) (known s) (known s'') (shelf_of s) (shelf_of s'') (side s x.side).core x
          (λ k. (returns_known seen (known s) (covers_known g seen s c) x.words (p k), returns_known seen (known s'') (covers_known g seen s'' (covers_agree g seen s s'' a c)) x.words (p k)))
          (λ r q. ap (λ (u : Side). u.core.shelf) (a r.source (route_source g (wrapper_of b).routes x.side x.j r cl o q)))
          ∙ ap₂ (λ (t : Setting) (u : Side). local t (known s'') (shelf_of s'') u.core x) (same_setting x.side o) (a x.side o))

      go : (t : Bool) → has_side (wrapper_of b) x.side ≡ t → ((step b s x).answer ≡ (step b' s'' x).answer) × ((m : ℕ) → has m g ≡ true → side (step b s x).after m ≡ side (step b' s'' x).after m)
      go true h = let h' : has_side (wrapper_of b') x.side ≡ true = ap (λ (w : ℕ). has_side (described w) x.side) (sym same-wrapper) ∙ h in
          rw (step_has b s x e h, step_has b' s'' x e' h', ← same_moved) (
            refl,
            λ m k. ap (λ (u : Side). side (put_side s x.side (side_after u (moved b s x))) m) (a x.side o)
                ∙ put_agree s s'' x.side m (side_after (side s'' x.side) (moved b s x)) (ready_size b s e ∙ sym (ready_size b' s'' e')) (a m k),
          )
      go false h = let h' : has_side (wrapper_of b') x.side ≡ false = ap (λ (w : ℕ). has_side (described w) x.side) (sym same-wrapper) ∙ h in
          rw (step_lacks b s x e h, step_lacks b' s'' x e' h') (refl, a)

  module _ where
    on : (c : Composition) (s : State) (x : Step) → ready c s ≡ true → ready c (step c s x).after ≡ true
    on c s x e = keeps c s x e

    -- TWO RUNS: the one with all its steps, the other with the group's alone
    lockstep : (xs : List Step) (seen : List ℕ) (s s'' : State) → ready b s ≡ true → ready b' s'' ≡ true → Agree g s s'' → Covers g seen s → premise g b seen s xs ≡ true →
        (sees g b s xs ≡ sees g b' s'' (steps_of g xs)) × Agree g (after_all b s xs) (after_all b' s'' (steps_of g xs))
    unfolding sees premise after_all Agree ◌or◌
    lockstep [] seen s s'' e e' a c p = (refl, a)
    lockstep (x ∷ xs) seen s s'' e e' a c p = go (is_of g x) refl (λ seen t t'. lockstep xs seen t t')
      where
        go : (t : Bool) → is_of g x ≡ t →
            ((seen : List ℕ) (t t' : State) → ready b t ≡ true → ready b' t' ≡ true → Agree g t t' → Covers g seen t → premise g b seen t xs ≡ true →
            (sees g b t xs ≡ sees g b' t' (steps_of g xs)) × Agree g (after_all b t xs) (after_all b' t' (steps_of g xs))) →
            (sees g b s (x ∷ xs) ≡ sees g b' s'' (cond t (x ∷ steps_of g xs) (steps_of g xs))) × Agree g (after_all b s (x ∷ xs)) (after_all b' s'' (cond t (x ∷ steps_of g xs) (steps_of g xs)))
        go true o ih =
            let early : eqb x.kind 1 ≡ true → left_earlier seen x.words ≡ true = λ k. entered o k (fst _ _ p) in
            let st = own seen s s'' e e' a c x o early in
            let r = ih (seen ++ left_by g (step b s x).answer) (step b s x).after (step b' s'' x).after (on b s x e) (on b' s'' x e') st.1 (covers_step g seen b s x e o c) (snd _ _ p) in
            (rw (o, st.0, map_agree (side (step b s x).after) (side (step b' s'' x).after) g (agrees st.1), r.0), r.1)
          where
            entered : is_of g x ≡ true → eqb x.kind 1 ≡ true → not (is_of g x && eqb x.kind 1) or left_earlier seen x.words ≡ true → left_earlier seen x.words ≡ true
            entered o k q = rw (o, k) at q

            agrees : Agree g (step b s x).after (step b' s'' x).after → (n : ℕ) → has n g ≡ true → side (step b s x).after n ≡ side (step b' s'' x).after n
            agrees q = q
        go false o ih =
            let so = other g b s x e o in
            let r = ih (seen ++ left_by g (step b s x).answer) (step b s x).after s'' (on b s x e) e' (joined so.0 a) (covers_other g seen b s x so c) (snd _ _ p) in
            (rw (o, r.0), r.1)
          where
            joined : Agree g (step b s x).after s → Agree g s s'' → Agree g (step b s x).after s''
            joined q a n h = q n h ∙ a n h

    -- the premise of the one is the premise of the other
    premise_same : (xs : List Step) (seen : List ℕ) (s s'' : State) → ready b s ≡ true → ready b' s'' ≡ true → Agree g s s'' → Covers g seen s → premise g b seen s xs ≡ premise g b' seen s'' (steps_of g xs)
    unfolding premise Agree ◌or◌ ◌&◌
    premise_same [] seen s s'' e e' a c = refl
    premise_same (x ∷ xs) seen s s'' e e' a c = go (is_of g x) refl (λ seen t t'. premise_same xs seen t t')
      where
        go : (t : Bool) → is_of g x ≡ t → ((seen : List ℕ) (t t' : State) → ready b t ≡ true → ready b' t' ≡ true → Agree g t t' → Covers g seen t → premise g b seen t xs ≡ premise g b' seen t' (steps_of g xs)) →
            premise g b seen s (x ∷ xs) ≡ premise g b' seen s'' (cond t (x ∷ steps_of g xs) (steps_of g xs))
        go true o ih = by-head (not (is_of g x && eqb x.kind 1) or left_earlier seen x.words) refl
          where
            by-head : (u : Bool) → not (is_of g x && eqb x.kind 1) or left_earlier seen x.words ≡ u → premise g b seen s (x ∷ xs) ≡ premise g b' seen s'' (x ∷ steps_of g xs)
            by-head false q = rw q
            by-head true q =
                let st = own seen s s'' e e' a c x o (λ k. rw (o, k) at q) in
                rw (q, ← st.0, ih (seen ++ left_by g (step b s x).answer) (step b s x).after (step b' s'' x).after (on b s x e) (on b' s'' x e') st.1 (covers_step g seen b s x e o c))
        go false o ih =
            let so = other g b s x e o in
            rw (o, ih (seen ++ left_by g (step b s x).answer) (step b s x).after s'' (on b s x e) e' (joined so.0 a) (covers_other g seen b s x so c), so.1, append-nil seen)
          where
            joined : Agree g (step b s x).after s → Agree g s s'' → Agree g (step b s x).after s''
            joined q a n h = q n h ∙ a n h

map_get : {A : Type 0} (f h : ℕ → A) (l : List ℕ) → map f l ≡ map h l → (n : ℕ) → has n l ≡ true → f n ≡ h n
map_get f h [] e n q = absurd (false≢true q)
map_get f h (m ∷ l) e n q = ⊎_elim (λ p. let z = eqb-true n m p in rw z (head_eq e)) (λ p. map_get f h l (tail_eq e) n p) (or_cases (eqb n m) (has n l) q)

-- A closed group of sides, under any wrapper
pub group_independence : GroupIndependence
unfolding GroupIndependence SameFor Agree Covers
group_independence g b b' same-wrapper cl tables s s'' l l' xs xs' same p =
    let tb = map_get (table b) (table b') g tables in
    let cl' : is_closed g (wrapper_of b') ≡ true = ap (λ (w : ℕ). is_closed g (described w)) (sym same-wrapper) ∙ cl in
    let e = starts b s l in
    let e' = starts b' s'' l' in
    let a = begin tb in
    let p2 = sym (premise_same g b b' same-wrapper cl tb xs [] s s'' e e' a (none_seen s)) ∙ p in
    let p3 : premise g b' [] s'' (steps_of g xs') ≡ true = ap (premise g b' [] s'') (sym same) ∙ p2 in
    let p' = premise_same g b' b' refl cl' (λ n h. refl) xs' [] s'' s'' e' e' (λ n h. refl) (none_seen s'') ∙ p3 in
    let r = lockstep g b b' same-wrapper cl tb xs [] s s'' e e' a (none_seen s) p in
    let r' = lockstep g b' b' refl cl' (λ n h. refl) xs' [] s'' s'' e' e' (λ n h. refl) (none_seen s'') p' in (
      map_agree (side s) (side s'') g a,
      r.0 ∙ ap (sees g b' s'') same ∙ sym r'.0,
      map_agree (side (after_all b s xs)) (side (after_all b' s'' xs')) g (λ n h. r.1 n h ∙ ap (λ (ys : List Step). side (after_all b' s'' ys) n) same ∙ sym (r'.1 n h)),
    )
  where
    none_seen : (t : State) (w : ℕ) → has w [] ≡ true → is_minted w ≡ true → (n : ℕ) × (has n g ≡ true) × (marked (side t n).left w ≡ true)
    none_seen t w h m = absurd (false≢true h)

    begin : ((n : ℕ) → has n g ≡ true → table b n ≡ table b' n) → (n : ℕ) → has n g ≡ true → side s n ≡ side s'' n
    begin tb n h = ap (λ (t : State). side t n) (sym (load_state b s l)) ∙ at n h ∙ ap (λ (t : State). side t n) (load_state b' s'' l')
      where
        from : (n : ℕ) → has n g ≡ true → start_of b n ≡ start_of b' n
        from n h = ap₂ (λ (w : ℕ) (t : Table). cond (has_side (described w) n) (start_side (start n t)) no_side) same-wrapper (tb n h)

        at : (n : ℕ) → has n g ≡ true → side (record { sides = map (start_of b) all_sides }) n ≡ side (record { sides = map (start_of b') all_sides }) n
        at zero h = refl
        at (suc zero) h = from 1 h
        at (suc (suc zero)) h = from 2 h
        at (suc (suc (suc n))) h = refl

-- DEMAND 3
pub independence : Independence
unfolding Independence GroupIndependence SameFor ◌&◌ ◌or◌
independence b b' w w' t s s'' l l' xs xs' same p =
    let closed : is_closed (1 ∷ []) (wrapper_of b) ≡ true = ap (λ (n : ℕ). is_closed (1 ∷ []) (described n)) w in
    let r = group_independence (1 ∷ []) b b' (w ∙ sym w') closed (ap (λ (y : Table). y ∷ []) t) s s'' l l' xs xs' same p in
    (head_eq r.0, r.1, head_eq r.2)
