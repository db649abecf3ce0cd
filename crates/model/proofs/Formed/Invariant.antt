-- A state that is ready stays ready.
use mathlib.Core.Path.{◌≡◌, refl, sym, ap, ap₂, ◌∙◌}
use mathlib.Core.Bool.{Bool, true, false, cond, false≢true}
use mathlib.Core.List.{List, [], ◌∷◌, map}
use mathlib.Core.Logic.{◌⊎◌, inl, inr, ⊎_elim}
use Prim.Native.Nat.{ℕ, zero, suc, ◌+◌, ◌/◌, ◌%◌, ◌<◌, ◌≤◌}
use native.Mathlib.Nat.{add-zero}
use native.Mathlib.Omega.{arith}
use borrow.Author.Tests.{leb-true, eqb-true, le-leb, lt-ltb, ltb-true}
use lib.Dec.{ltb, eqb}
use lib.ListN.{length, get_or, set, length-set}
use Rattle.model.specs.Basics.{◌&◌, choose, need, Res, refuse, done, bind, every, one_of, has}
use Rattle.model.specs.Values.{is_minted, is_value, side_of, serial}
use Rattle.model.specs.Table.{Table}
use Rattle.model.specs.Checks.{fault, Fault}
use Rattle.model.specs.Side.{within_limits, limits, Core, Side, State, Particle, output, input, no_side, side, put_side, taken_at, has_taken}
use Rattle.model.specs.Wrapper.{Route, all_sides, filter, pipeline, logging, no_wrapper, is_wrapper, described, has_side, takes_any}
use Rattle.model.specs.Load.{Setting, Composition, setting, wrapper_of, table, load, is_ok, ok, load_sides, side_fault, lack_fault, start, start_of}
use Rattle.model.specs.WellFormed.{Counts, count_of, held, held_word, wf_value, wf_particle, wf_left, wf_side, wf_side_of, is_no_side, wf_taken, wf_state, clear, counts, shelf_of, ready}
use Rattle.model.specs.Step.{short, Step, Label, silent, enters, leaves, logs, Moved, local, route_to, takes, inner, marks, marked, mark_all, mark1, mark_of, known, step, settled, side_after}
use Rattle.model.proofs.Basics.Tests.{or_cases, or_right, fst, snd, both, alt, every_mono, has_every, every_has, need_done, choose_done, bind_done, pick_done, cond_true}
use Rattle.model.proofs.Basics.Names.{minted_range, is_minted_lem, held_of, held_below}
use Rattle.model.proofs.Basics.Sides.{described_by, put_same, put_self, put_size, put_each}
use Rattle.model.proofs.Formed.Growing.{less, Le, CoreOk, core_ok, core_wf, core_mono, wf_left_mono}
use Rattle.model.proofs.Formed.Keeping.{is_log, Spoken, spoken_held, Kept, done_inj, enter_keeps, down_keeps, up_keeps, descend_keeps, pass_keeps, leave_keeps, takes_keeps}
use Rattle.model.proofs.Basics.Items.{clash}
use Rattle.model.proofs.Basics.Checked.{Checked, checked}
use Rattle.model.proofs.Formed.MeetingKeeps.{mine, Kept', meet_keeps}

-- what is settled: the step's own result, with no output too long and no limit passed
pub record Settled (r : Res Moved) (m : Moved) : Type 0 where
  pub is : r ≡ done m
  pub short_outputs : every short m.core.contents.particles ≡ true
  pub few : limits m.core ≡ true

pub settled_done : (r : Res Moved) (m : Moved) → settled r ≡ done m → Settled r m
unfolding settled
settled_done r m e =
    let (n, p, q) = bind_done _ _ _ e in
    let a = need_done _ _ _ _ q in
    let b = need_done _ _ _ _ a.1 in
    let same : n ≡ m = done_inj b.1 in
    record { is = p ∙ ap done same; short_outputs = rw (← same) a.0; few = rw (← same) b.0 }

pub settled_is : (r : Res Moved) (m : Moved) → Settled r m → settled r ≡ done m
unfolding settled bind need
settled_is r m q = rw (q.is, q.short_outputs, q.few)

-- a well-formed side has no output that is too long, and keeps the limits
pub core_short : (c : Setting) (k : Counts) (s : Core) → CoreOk c k s → every short s.contents.particles ≡ true
unfolding wf_particle wf_value is_value
core_short c k s o = every_mono _ _ short-of s.contents.particles o.contents.particles
  where
    short-of : (p : Particle) → wf_particle c.table k (length s.contents.boxes) p ≡ true → short p ≡ true
    short-of (output b ch g v) h = fst _ _ (fst _ _ (snd _ _ (snd _ _ (snd _ _ h))))
    short-of (input b n vs) h = refl

pub core_limits : (c : Setting) (k : Counts) (s : Core) → CoreOk c k s → limits s ≡ true
unfolding limits
core_limits c k s o = both _ _ o.contents.few (both _ _ (le-leb _ _ o.few_lobby) (le-leb _ _ o.few_shelf))

-- a route is found by its receiver and its j
pub route_j : (rs : List Route) (n j : ℕ) (r : Route) → route_to rs n j ≡ done r → r.j ≡ j
unfolding route_to
route_j [] n j r e = absurd (clash e)
route_j (q ∷ rs) n j r e = ⊎_elim (λ p. ap (λ (x : Route). x.j) (sym (done_inj p.1)) ∙ eqb-true q.j j (snd _ _ p.0)) (λ p. route_j rs n j r p.1) (choose_done _ _ _ _ e)

pub route_any : (rs : List Route) (n j : ℕ) (r : Route) → route_to rs n j ≡ done r → one_of (λ r. eqb r.receiver n) rs ≡ true
unfolding route_to
route_any [] n j r e = absurd (clash e)
route_any (q ∷ rs) n j r e = ⊎_elim (λ p. rw (fst _ _ p.0)) (λ p. or_right (eqb q.receiver n) _ (route_any rs n j r p.1)) (choose_done _ _ _ _ e)

takes_shelf : (n : ℕ) (sh : List (List ℕ)) (s : Core) (i : ℕ) (m : Moved) → takes n sh s i ≡ done m → m.core.shelf ≡ s.shelf
unfolding takes
takes_shelf n sh s i m e =
    let (v, f, g, l) = pick_done _ _ _ _ e in
    let b = need_done _ _ _ _ f in
    ap (λ (y : Moved). y.core.shelf) (sym (done_inj b.1))

module _ (c : Setting) (k : Counts) (s : Core) (o : CoreOk c k s) (ch : Checked c.table) (which : has c.side all_sides ≡ true) where
  same_count : (m : Moved) → Kept c k s m → Kept' c k s m
  same_count m h = record { more = omega (arith, h.minted); ok = λ k' le mi. core_mono c k k' le m.core h.ok; shelf = h.shelf; taken = h.taken; said = h.said }

  inner_keeps : every is_log c.wrapper.copies ≡ true → (x : Step) (m : Moved) → inner c s x ≡ done m → every short m.core.contents.particles ≡ true → limits m.core ≡ true → Kept' c k s m
  unfolding inner
  inner_keeps cl x m e sh lim =
      let a = need_done _ _ _ _ e in
      ⊎_elim (λ p. same_count m (descend_keeps c k s o x.i x.j m p.1)) (λ p.
      ⊎_elim (λ p. meet_keeps c k s o ch which x.i x.j m p.1 sh lim) (λ p. let b = need_done _ _ _ _ p.1 in
      ⊎_elim (λ p. same_count m (down_keeps c k s o x.i m p.1 lim)) (λ p.
      ⊎_elim (λ p. same_count m (up_keeps c k s o x.i m p.1 lim)) (λ p.
      ⊎_elim (λ p. same_count m (pass_keeps c k s o cl x.i m p.1 lim)) (λ p.
      ⊎_elim (λ p. same_count m (leave_keeps c k s o x.i m p.1)) (λ p. absurd (clash p.1))
      (choose_done _ _ _ _ p.1)) (choose_done _ _ _ _ p.1)) (choose_done _ _ _ _ p.1)) (choose_done _ _ _ _ b.1)) (choose_done _ _ _ _ p.1)) (choose_done _ _ _ _ a.1)

  -- a step by kinds 1 to 8: a take marks its place and no other
  pub record LocalKept (sh : ℕ → List (List ℕ)) (m : Moved) : Type 0 where
    pub more : s.contents.minted ≤ m.core.contents.minted
    pub ok : (k' : Counts) → Le k k' → mine c k' ≡ m.core.contents.minted → CoreOk c k' m.core
    pub shelf : length s.shelf ≤ length m.core.shelf
    pub said : Spoken c.wrapper.copies k m.label m.val
    pub taken : (m.core.taken ≡ s.taken) ⊎ ((r : Route) × (i : ℕ) × (route_to c.wrapper.routes c.side r.j ≡ done r) × (i < length (sh r.source)) × (m.core.taken ≡ set s.taken (taken_at r.source i) true))

  pub local_keeps : every is_log c.wrapper.copies ≡ true → (kn : ℕ → Bool) → ((w : ℕ) → kn w ≡ true → is_minted w ≡ true → held k w ≡ true) → (sh : ℕ → List (List ℕ)) → ((n : ℕ) → every (wf_value k) (sh n) ≡ true) →
      (x : Step) (m : Moved) → local c kn sh s x ≡ done m → every short m.core.contents.particles ≡ true → limits m.core ≡ true → LocalKept sh m
  unfolding local
  local_keeps cl kn h sh hs x m e short-m lim =
      ⊎_elim (λ p. let b = need_done _ _ _ _ p.1 in plainly (same_count m (enter_keeps c k s o cl kn h x.words m b.1 lim)))
      (λ p. ⊎_elim (λ q. let b = need_done _ _ _ _ q.1 in took (bind_done _ _ _ b.1)) (λ q. plainly (inner_keeps cl x m q.1 short-m lim)) (choose_done _ _ _ _ p.1))
      (choose_done _ _ _ _ e)
    where
      plainly : Kept' c k s m → LocalKept sh m
      plainly r = record { more = r.more; ok = r.ok; shelf = r.shelf; said = r.said; taken = inl r.taken }

      took : (r : Route) × (route_to c.wrapper.routes c.side x.j ≡ done r) × (takes r.source (sh r.source) s x.i ≡ done m) → LocalKept sh m
      took (r, p, q) =
          let t = takes_keeps c k s o r.source (sh r.source) (hs r.source) x.i m q lim in
          let g = takes_shelf r.source (sh r.source) s x.i m q in
          record {
            more = omega (arith, t.1);
            ok = λ k' le mi. core_mono c k k' le m.core t.0;
            shelf = omega (arith, ap length g);
            said = t.4;
            taken = inr (r, x.i, ap (λ (j : ℕ). route_to c.wrapper.routes c.side j) (route_j c.wrapper.routes c.side x.j r p) ∙ p, t.3, t.2);
          }

-- THE MARKS
left_get : (k : Counts) (l : List Bool) (i j : ℕ) → wf_left k i l ≡ true → get_or l j false ≡ true → ltb ((i + j) % 256) (count_of k (suc ((i + j) / 256))) ≡ true
unfolding wf_left
left_get k [] i j h e = absurd (false≢true e)
left_get k (x ∷ xs) i zero h e = rw add-zero (rw e at (fst _ _ h))
left_get k (x ∷ xs) i (suc j) h e = let q : i + suc j ≡ i + 1 + j = omega arith in rw q (left_get k xs (i + 1) j (snd _ _ h) e)

left_set : (k : Counts) (l : List Bool) (i j : ℕ) → wf_left k i l ≡ true → ltb ((i + j) % 256) (count_of k (suc ((i + j) / 256))) ≡ true → wf_left k i (set l j true) ≡ true
unfolding wf_left
left_set k [] i j h e = refl
left_set k (x ∷ xs) i zero h e = both _ _ (rw add-zero at e) (snd _ _ h)
left_set k (x ∷ xs) i (suc j) h e = let q : i + suc j ≡ i + 1 + j = omega arith in both _ _ (fst _ _ h) (left_set k xs (i + 1) j (snd _ _ h) (rw q at e))

-- a minted name is held if its place is below its side's count, and the other way round
held_place : (k : Counts) (w : ℕ) → is_minted w ≡ true → ltb ((0 + mark_of w) % 256) (count_of k (suc ((0 + mark_of w) / 256))) ≡ ltb (serial w) (count_of k (side_of w))
held_place k w e = ⊎_elim
    (λ p. let a = leb-true 65536 w (fst _ _ p) in let b = leb-true w 65791 (snd _ _ p) in same (omega arith) (omega arith))
    (λ p. let a = leb-true 131072 w (fst _ _ p) in let b = leb-true w 131327 (snd _ _ p) in same (omega arith) (omega arith))
    (alt _ _ e)
  where
    same : (0 + mark_of w) % 256 ≡ serial w → suc ((0 + mark_of w) / 256) ≡ side_of w → ltb ((0 + mark_of w) % 256) (count_of k (suc ((0 + mark_of w) / 256))) ≡ ltb (serial w) (count_of k (side_of w))
    same p q = ap₂ (λ (x y : ℕ). ltb x (count_of k y)) p q

marked_held : (k : Counts) (l : List Bool) → wf_left k 0 l ≡ true → (w : ℕ) → marked l w ≡ true → is_minted w ≡ true → held k w ≡ true
marked_held k l h w e m = held_of k w (is_minted_lem (both _ _ m (sym (held_place k w m) ∙ left_get k l 0 (mark_of w) h e)))

mark1_wf : (k : Counts) (l : List Bool) (w : ℕ) → held_word k w ≡ true → wf_left k 0 l ≡ true → wf_left k 0 (mark1 l w) ≡ true
unfolding mark1 held_word
mark1_wf k l w h e = go (is_minted w) refl
  where
    go : (b : Bool) → is_minted w ≡ b → wf_left k 0 (mark1 l w) ≡ true
    go false m = rw m e
    go true m = rw m (left_set k l 0 (mark_of w) e (held_place k w m ∙
        ⊎_elim (λ p. let a = leb-true 4000000 w p in absurd (omega (arith, (minted_range w m).1))) (λ p. snd _ _ (held_below k w m p)) (alt _ _ h)))

pub mark1_size : (l : List Bool) (w : ℕ) → length (mark1 l w) ≡ length l
unfolding mark1
mark1_size l w = go (is_minted w)
  where
    go : (b : Bool) → length (cond b (set l (mark_of w) true) l) ≡ length l
    go true = length-set l (mark_of w) true
    go false = refl

mark_all_wf : (k : Counts) (ws : List ℕ) (l : List Bool) → every (held_word k) ws ≡ true → wf_left k 0 l ≡ true → (wf_left k 0 (mark_all l ws) ≡ true) × (length (mark_all l ws) ≡ length l)
mark_all_wf k [] l h e = (e, refl)
mark_all_wf k (w ∷ ws) l h e = let r = mark_all_wf k ws (mark1 l w) (snd _ _ h) (mark1_wf k l w (fst _ _ h) e) in (r.0, r.1 ∙ mark1_size l w)

marks_wf : (k : Counts) (t : Label) (ws : List ℕ) (l : List Bool) → every (held_word k) ws ≡ true → wf_left k 0 l ≡ true → (wf_left k 0 (marks t ws l) ≡ true) × (length (marks t ws l) ≡ length l)
marks_wf k silent ws l h e = (e, refl)
marks_wf k enters ws l h e = (e, refl)
marks_wf k leaves ws l h e = mark_all_wf k ws l h e
marks_wf k logs ws l h e = mark_all_wf k ws l h e

-- THE TAKEN MARKS
taken_more : (t : Bool) (sh sh' : ℕ → List (List ℕ)) → ((n : ℕ) → length (sh n) ≤ length (sh' n)) → (i : ℕ) (l : List Bool) → wf_taken t sh i l ≡ true → wf_taken t sh' i l ≡ true
unfolding wf_taken
taken_more t sh sh' le i [] e = refl
taken_more t sh sh' le i (false ∷ xs) e = both _ _ refl (taken_more t sh sh' le (i + 1) xs (snd _ _ e))
taken_more t sh sh' le i (true ∷ xs) e =
    both _ _ (both _ _ (fst _ _ (fst _ _ e)) (less (i % 32) (length (sh (suc (i / 32)))) (length (sh' (suc (i / 32)))) (snd _ _ (fst _ _ e)) (le (suc (i / 32))))) (taken_more t sh sh' le (i + 1) xs (snd _ _ e))

taken_set : (t : Bool) (sh : ℕ → List (List ℕ)) (l : List Bool) (i j : ℕ) → wf_taken t sh i l ≡ true → t & ltb ((i + j) % 32) (length (sh (suc ((i + j) / 32)))) ≡ true → wf_taken t sh i (set l j true) ≡ true
unfolding wf_taken
taken_set t sh [] i j h e = refl
taken_set t sh (x ∷ xs) i zero h e = both _ _ (rw add-zero at e) (snd _ _ h)
taken_set t sh (x ∷ xs) i (suc j) h e =
    let q : i + suc j ≡ i + 1 + j = omega arith in
    both _ _ (fst _ _ h) (taken_set t sh xs (i + 1) j (snd _ _ h) (rw q at e))

taken_get : (t : Bool) (sh : ℕ → List (List ℕ)) (l : List Bool) (i j : ℕ) → wf_taken t sh i l ≡ true → get_or l j false ≡ true → t & ltb ((i + j) % 32) (length (sh (suc ((i + j) / 32)))) ≡ true
unfolding wf_taken
taken_get t sh [] i j h e = absurd (false≢true e)
taken_get t sh (x ∷ xs) i zero h e = rw add-zero (rw e at (fst _ _ h))
taken_get t sh (x ∷ xs) i (suc j) h e = let q : i + suc j ≡ i + 1 + j = omega arith in rw q (taken_get t sh xs (i + 1) j (snd _ _ h) e)

clear_none : (l : List Bool) (i : ℕ) → clear l ≡ true → get_or l i false ≡ true → ⊥
clear_none [] i h e = false≢true e
clear_none (x ∷ xs) zero h e = false≢true (rw e at (fst _ _ h))
clear_none (x ∷ xs) (suc i) h e = clear_none xs i (snd _ _ h) e

-- SIDES BY NUMBER
pub which : (w n : ℕ) → has_side (described w) n ≡ true → has n all_sides ≡ true
which w n = described_by (λ d. has_side d n ≡ true → has n all_sides ≡ true) first (λ h. h) first (λ h. absurd (false≢true h)) w
  where
    first : has n (1 ∷ []) ≡ true → has n all_sides ≡ true
    first h = ⊎_elim (λ q. rw q) (λ q. absurd (false≢true q)) (or_cases (eqb n 1) false h)

pub copies_log : (w : ℕ) → every is_log (described w).copies ≡ true
copies_log = described_by (λ d. every is_log d.copies ≡ true) refl refl (both _ _ refl refl) refl

-- wrapper 3 alone has copies
pub copies_where : (w x : ℕ) → has x (described w).copies ≡ true → w ≡ 3
copies_where w x h = go (eqb w 1) (eqb w 2) (eqb w 3) refl h
  where
    go : (t u v : Bool) → eqb w 3 ≡ v → has x (cond t filter (cond u pipeline (cond v logging no_wrapper))).copies ≡ true → w ≡ 3
    go true u v q h = absurd (false≢true h)
    go false true v q h = absurd (false≢true h)
    go false false true q h = eqb-true w 3 q
    go false false false q h = absurd (false≢true h)

pub positive : (n : ℕ) → has n all_sides ≡ true → (1 ≤ n) × (n ≤ 2)
positive n h = ⊎_elim (λ q. let z = eqb-true n 1 q in (omega arith, omega arith))
    (λ p. ⊎_elim (λ q. let z = eqb-true n 2 q in (omega arith, omega arith)) (λ q. absurd (false≢true q)) (or_cases (eqb n 2) false p)) (or_cases (eqb n 1) (has n (2 ∷ [])) h)

pub one_get : {A : Type 0} (f : A → Bool) (l : List A) (d : A) → one_of f l ≡ true → (i : ℕ) × (i < length l) × (f (get_or l i d) ≡ true)
one_get f [] d e = absurd (false≢true e)
one_get f (x ∷ l) d e = ⊎_elim (λ p. (0, omega arith, p)) (λ p. let r = one_get f l d p in (suc r.0, omega (arith, r.1), r.2)) (or_cases (f x) (one_of f l) e)

pub count_is : (s : State) (n : ℕ) → count_of (counts s) n ≡ (side s n).core.contents.minted
count_is s zero = refl
count_is s (suc n) = go s.sides n
  where
    go : (l : List Side) (i : ℕ) → get_or (map (λ o. o.core.contents.minted) l) i 0 ≡ (get_or l i no_side).core.contents.minted
    go [] i = refl
    go (x ∷ l) zero = refl
    go (x ∷ l) (suc i) = go l i

-- WHAT LOAD CHECKED
side_faultless : (n : ℕ) (t : Table) (k : ℕ) → side_fault n t ≡ refuse k → Checked t × (within_limits (start n t) ≡ true)
unfolding side_fault
side_faultless n t k e = go (fault t) refl (within_limits (start n t)) refl
  where
    go : (q : Res Fault) → fault t ≡ q → (r : Bool) → within_limits (start n t) ≡ r → Checked t × (within_limits (start n t) ≡ true)
    go (done q) p r z = absurd (clash (sym (rw (p, side_fault) at e)))
    go (refuse j) p true z = (checked t j p, z)
    go (refuse j) p false z = absurd (clash (sym (rw (p, z, side_fault) at e)))

load_walk : (b : Composition) (n : ℕ) → has_side (wrapper_of b) n ≡ true → (ns : List ℕ) (s : State) → is_ok (load_sides b ns (ok s)) ≡ true → has n ns ≡ true → Checked (table b n) × (within_limits (start n (table b n)) ≡ true)
unfolding load_sides choose
load_walk b n h [] s e q = absurd (false≢true q)
load_walk b n h (m ∷ ns) s e q = go (choose (has_side (wrapper_of b) m) (side_fault m (table b m)) (lack_fault (table b m))) refl (λ z. load_walk b n h ns s z)
  where
    go : (r : Res Fault) → choose (has_side (wrapper_of b) m) (side_fault m (table b m)) (lack_fault (table b m)) ≡ r →
        (is_ok (load_sides b ns (ok s)) ≡ true → has n ns ≡ true → Checked (table b n) × (within_limits (start n (table b n)) ≡ true)) → Checked (table b n) × (within_limits (start n (table b n)) ≡ true)
    go (done f) p ih = absurd (false≢true (rw (p, load_sides) at e))
    go (refuse k) p ih = ⊎_elim (λ z. let y = eqb-true n m z in side_faultless n (table b n) k (rw (← y, h) at p)) (λ z. ih (rw (p, load_sides) at e) z) (or_cases (eqb n m) (has n ns) q)

pub load_checked : (b : Composition) → is_ok (load b) ≡ true → (n : ℕ) → has_side (wrapper_of b) n ≡ true → Checked (table b n) × (within_limits (start n (table b n)) ≡ true)
unfolding load
load_checked b e n h = go (is_wrapper b.wrapper) refl
  where
    walk : (ns : List ℕ) (s : State) → is_ok (load_sides b ns (ok s)) ≡ true → has n ns ≡ true → Checked (table b n) × (within_limits (start n (table b n)) ≡ true)
    walk ns s q r = load_walk b n h ns s q r

    go : (t : Bool) → is_wrapper b.wrapper ≡ t → Checked (table b n) × (within_limits (start n (table b n)) ≡ true)
    go true q = walk all_sides (record { sides = map (start_of b) all_sides }) (rw (q, load) at e) (which b.wrapper n h)
    go false q = absurd (false≢true (rw (q, load) at e))

module _ (b : Composition) (s : State) (e : ready b s ≡ true) where
  pub loaded : is_ok (load b) ≡ true
  unfolding ready
  loaded = fst _ _ e

  pub wf : wf_state b s ≡ true
  unfolding ready
  wf = snd _ _ e

  pub size : length s.sides ≡ 2
  unfolding wf_state
  size = eqb-true (length s.sides) 2 (fst _ _ wf)

  pub at_side : (n : ℕ) → has n all_sides ≡ true → wf_side_of b s n ≡ true
  unfolding wf_state
  at_side n h = has_every (wf_side_of b s) all_sides n (snd _ _ wf) h

  -- a side that the wrapper has
  pub side_wf : (n : ℕ) → has_side (wrapper_of b) n ≡ true → wf_side (setting b n) (counts s) (shelf_of s) (side s n) ≡ true
  unfolding wf_side_of
  side_wf n h = cond_true (has_side (wrapper_of b) n) _ _ h (at_side n (which b.wrapper n h))

  pub side_ok : (n : ℕ) → has_side (wrapper_of b) n ≡ true → CoreOk (setting b n) (counts s) (side s n).core
  unfolding wf_side
  side_ok n h = core_ok (setting b n) (counts s) (side s n).core (fst _ _ (side_wf n h))

  -- what may enter is held
  pub known_held : (w : ℕ) → known s w ≡ true → is_minted w ≡ true → held (counts s) w ≡ true
  unfolding wf_side_of wf_side is_no_side
  known_held w k m = let (i, l, q) = one_get (λ o. marked o.left w) s.sides no_side k in from i l q
    where
      go : (n : ℕ) (t : Bool) → cond t (wf_side (setting b n) (counts s) (shelf_of s) (side s n)) (is_no_side (side s n)) ≡ true → marked (side s n).left w ≡ true → held (counts s) w ≡ true
      go n true h q = marked_held (counts s) (side s n).left (snd _ _ (fst _ _ (snd _ _ h))) w q m
      go n false h q = absurd (clear_none (side s n).left (mark_of w) (fst _ _ (snd _ _ (snd _ _ (snd _ _ (snd _ _ (snd _ _ h)))))) q)

      from : (i : ℕ) → i < length s.sides → marked (get_or s.sides i no_side).left w ≡ true → held (counts s) w ≡ true
      from zero l q = go 1 (has_side (wrapper_of b) 1) (at_side 1 refl) q
      from (suc zero) l q = go 2 (has_side (wrapper_of b) 2) (at_side 2 refl) q
      from (suc (suc i)) l q = absurd (omega (arith, size))

  -- every shelf's values are held
  shelves_held : (n : ℕ) → every (wf_value (counts s)) (shelf_of s n) ≡ true
  unfolding wf_side_of is_no_side
  shelves_held zero = refl
  shelves_held (suc n) = from n
    where
      empty : (l : List (List ℕ)) → eqb (length l) 0 ≡ true → every (wf_value (counts s)) l ≡ true
      empty [] h = refl
      empty (x ∷ l) h = let z = eqb-true (suc (length l)) 0 h in absurd (omega arith)

      go : (n : ℕ) → has n all_sides ≡ true → (t : Bool) → has_side (wrapper_of b) n ≡ t → every (wf_value (counts s)) (side s n).core.shelf ≡ true
      go n h true p = (side_ok n p).shelf
      go n h false p = empty (side s n).core.shelf (fst _ _ (snd _ _ (snd _ _ (snd _ _ (snd _ _ (snd _ _ (snd _ _ (rw p at (at_side n h)))))))))

      past : (l : List Side) (i : ℕ) → length l ≤ i → (get_or l i no_side).core.shelf ≡ []
      past [] i h = refl
      past (x ∷ l) zero h = absurd (omega arith)
      past (x ∷ l) (suc i) h = past l i (omega arith)

      from : (i : ℕ) → every (wf_value (counts s)) (get_or s.sides i no_side).core.shelf ≡ true
      from zero = go 1 refl (has_side (wrapper_of b) 1) refl
      from (suc zero) = go 2 refl (has_side (wrapper_of b) 2) refl
      from (suc (suc i)) = ap (every (wf_value (counts s))) (past s.sides (suc (suc i)) (omega (arith, size)))

side_mono : (c : Setting) (k k' : Counts) (sh sh' : ℕ → List (List ℕ)) → Le k k' → ((n : ℕ) → length (sh n) ≤ length (sh' n)) → (s : Side) → wf_side c k sh s ≡ true → wf_side c k' sh' s ≡ true
unfolding wf_side
side_mono c k k' sh sh' le ls s h =
    let lf = fst _ _ (snd _ _ h) in
    let tk = snd _ _ (snd _ _ h) in
    both _ _ (core_wf c k' s.core (core_mono c k k' le s.core (core_ok c k s.core (fst _ _ h))))
    (both _ _ (both _ _ (fst _ _ lf) (wf_left_mono k k' le s.left 0 (snd _ _ lf))) (both _ _ (fst _ _ tk) (taken_more _ sh sh' ls 0 s.core.taken (snd _ _ tk))))

-- A SIDE after its own step
side_after_lem : (c : Setting) (k k' : Counts) (sh sh' : ℕ → List (List ℕ)) → Le k k' → ((n : ℕ) → length (sh n) ≤ length (sh' n)) →
    (s : Side) (o : CoreOk c k s.core) (ch : Checked c.table) (w : has c.side all_sides ≡ true) (m : Moved) →
    LocalKept c k s.core o ch w sh m → mine c k' ≡ m.core.contents.minted → ((n i : ℕ) → i < length (sh n) → (1 ≤ n) × (i < 32)) → wf_side c k sh s ≡ true → wf_side c k' sh' (side_after s (done m)) ≡ true
unfolding wf_side
side_after_lem c k k' sh sh' le ls s o ch w m kp mi in-range h =
    let lf = fst _ _ (snd _ _ h) in
    let tk = snd _ _ (snd _ _ h) in
    let r = marks_wf k m.label m.val s.left (spoken_held c.wrapper.copies k m.label m.val kp.said) (snd _ _ lf) in
    both _ _ (core_wf c k' m.core (kp.ok k' le mi))
    (both _ _ (both _ _ (rw r.1 (fst _ _ lf)) (wf_left_mono k k' le (marks m.label m.val s.left) 0 r.0))
    (⊎_elim (λ q. rw q (both _ _ (fst _ _ tk) (taken_more _ sh sh' ls 0 s.core.taken (snd _ _ tk))))
    (λ (r, i, p, l, q). rw q (both _ _ (rw length-set (fst _ _ tk)) (taken_more _ sh sh' ls 0 (set s.core.taken (taken_at r.source i) true)
    (taken_set _ sh s.core.taken 0 (taken_at r.source i) (snd _ _ tk) (both _ _ (route_any c.wrapper.routes c.side r.j r p) (place r i l))))))
    kp.taken))
  where
    place : (r : Route) (i : ℕ) → i < length (sh r.source) → ltb ((0 + taken_at r.source i) % 32) (length (sh (suc ((0 + taken_at r.source i) / 32)))) ≡ true
    place r i l =
        let (a, z) = in-range r.source i l in
        let p : (0 + taken_at r.source i) % 32 ≡ i = omega (arith, a, z) in
        let q : suc ((0 + taken_at r.source i) / 32) ≡ r.source = omega (arith, a, z) in
        ap₂ (λ (x y : ℕ). ltb x (length (sh y))) p q ∙ lt-ltb i (length (sh r.source)) l

module _ (b : Composition) (s : State) (e : ready b s ≡ true) where
  pub shelf_few : (n : ℕ) → length (shelf_of s n) ≤ 32
  unfolding wf_side_of is_no_side
  shelf_few zero = omega arith
  shelf_few (suc n) = from n
    where
      go : (n : ℕ) → has n all_sides ≡ true → (t : Bool) → has_side (wrapper_of b) n ≡ t → length (side s n).core.shelf ≤ 32
      go n h true p = (side_ok b s e n p).few_shelf
      go n h false p =
          let z = eqb-true (length (side s n).core.shelf) 0 (fst _ _ (snd _ _ (snd _ _ (snd _ _ (snd _ _ (snd _ _ (snd _ _ (rw p at (at_side b s e n h))))))))) in
          omega arith

      past : (l : List Side) (i : ℕ) → length l ≤ i → length (get_or l i no_side).core.shelf ≡ 0
      past [] i h = refl
      past (x ∷ l) zero h = absurd (omega arith)
      past (x ∷ l) (suc i) h = past l i (omega arith)

      from : (i : ℕ) → length (get_or s.sides i no_side).core.shelf ≤ 32
      from zero = go 1 refl (has_side (wrapper_of b) 1) refl
      from (suc zero) = go 2 refl (has_side (wrapper_of b) 2) refl
      from (suc (suc i)) = let z = past s.sides (suc (suc i)) (omega (arith, size b s e)) in omega arith

  -- a taken mark stands at a filled place
  pub no_mark : (n i : ℕ) → 1 ≤ n → i < 32 → (i < length (shelf_of s n) → ⊥) → (j : ℕ) → j < length s.sides → has_taken (get_or s.sides j no_side).core n i ≡ true → ⊥
  unfolding wf_side_of wf_side is_no_side
  no_mark n i p l never j a q = from j a q
    where
      go : (k : ℕ) (t : Bool) → cond t (wf_side (setting b k) (counts s) (shelf_of s) (side s k)) (is_no_side (side s k)) ≡ true → has_taken (side s k).core n i ≡ true → ⊥
      go k true h q =
          let g = snd _ _ (taken_get _ (shelf_of s) (side s k).core.taken 0 (taken_at n i) (snd _ _ (snd _ _ (snd _ _ h))) q) in
          let x : (0 + taken_at n i) % 32 ≡ i = omega (arith, p, l) in
          let y : suc ((0 + taken_at n i) / 32) ≡ n = omega (arith, p, l) in
          never (ltb-true i (length (shelf_of s n)) (sym (ap₂ (λ (u v : ℕ). ltb u (length (shelf_of s v))) x y) ∙ g))
      go k false h q = clear_none (side s k).core.taken (taken_at n i) (snd _ _ (snd _ _ (snd _ _ (snd _ _ (snd _ _ (snd _ _ (snd _ _ (snd _ _ h)))))))) q

      from : (j : ℕ) → j < length s.sides → has_taken (get_or s.sides j no_side).core n i ≡ true → ⊥
      from zero a q = go 1 (has_side (wrapper_of b) 1) (at_side b s e 1 refl) q
      from (suc zero) a q = go 2 (has_side (wrapper_of b) 2) (at_side b s e 2 refl) q
      from (suc (suc j)) a q = absurd (omega (arith, size b s e))

  -- and is a taker's
  pub mark_taker : (n i j : ℕ) → j < length s.sides → has_taken (get_or s.sides j no_side).core n i ≡ true → takes_any (wrapper_of b) (suc j) ≡ true
  unfolding wf_side_of wf_side is_no_side
  mark_taker n i j a q = from j a q
    where
      go : (k : ℕ) (t : Bool) → cond t (wf_side (setting b k) (counts s) (shelf_of s) (side s k)) (is_no_side (side s k)) ≡ true → has_taken (side s k).core n i ≡ true → takes_any (wrapper_of b) k ≡ true
      go k true h q = fst _ _ (taken_get _ (shelf_of s) (side s k).core.taken 0 (taken_at n i) (snd _ _ (snd _ _ (snd _ _ h))) q)
      go k false h q = absurd (clear_none (side s k).core.taken (taken_at n i) (snd _ _ (snd _ _ (snd _ _ (snd _ _ (snd _ _ (snd _ _ (snd _ _ (snd _ _ h)))))))) q)

      from : (j : ℕ) → j < length s.sides → has_taken (get_or s.sides j no_side).core n i ≡ true → takes_any (wrapper_of b) (suc j) ≡ true
      from zero a q = go 1 (has_side (wrapper_of b) 1) (at_side b s e 1 refl) q
      from (suc zero) a q = go 2 (has_side (wrapper_of b) 2) (at_side b s e 2 refl) q
      from (suc (suc j)) a q = absurd (omega (arith, size b s e))

  pub taken_size : (n : ℕ) → has_side (wrapper_of b) n ≡ true → length (side s n).core.taken ≡ 64
  unfolding wf_side
  taken_size n h = eqb-true (length (side s n).core.taken) 64 (fst _ _ (snd _ _ (snd _ _ (side_wf b s e n h))))

  -- a side's own names are few
  pub few_minted : (n : ℕ) → (side s n).core.contents.minted ≤ 256
  unfolding wf_side_of is_no_side
  few_minted zero = omega arith
  few_minted (suc n) = from n
    where
      go : (n : ℕ) → has n all_sides ≡ true → (t : Bool) → has_side (wrapper_of b) n ≡ t → (side s n).core.contents.minted ≤ 256
      go n h true p = leb-true (side s n).core.contents.minted 256 (snd _ _ (snd _ _ (side_ok b s e n p).contents.few))
      go n h false p = let z = eqb-true (side s n).core.contents.minted 0 (fst _ _ (snd _ _ (snd _ _ (rw p at (at_side b s e n h))))) in omega arith

      past : (l : List Side) (i : ℕ) → length l ≤ i → (get_or l i no_side).core.contents.minted ≡ 0
      past [] i h = refl
      past (x ∷ l) zero h = absurd (omega arith)
      past (x ∷ l) (suc i) h = past l i (omega arith)

      from : (i : ℕ) → (get_or s.sides i no_side).core.contents.minted ≤ 256
      from zero = go 1 refl (has_side (wrapper_of b) 1) refl
      from (suc zero) = go 2 refl (has_side (wrapper_of b) 2) refl
      from (suc (suc i)) = let z = past s.sides (suc (suc i)) (omega (arith, size b s e)) in omega arith

  -- a side's next core
  pub side_keeps : (n : ℕ) (h : has_side (wrapper_of b) n ≡ true) (x : Step) (m : Moved) → settled (local (setting b n) (known s) (shelf_of s) (side s n).core x) ≡ done m →
      LocalKept (setting b n) (counts s) (side s n).core (side_ok b s e n h) (load_checked b (loaded b s e) n h).0 (which b.wrapper n h) (shelf_of s) m
  side_keeps n h x m p =
      let st = settled_done _ m p in
      local_keeps (setting b n) (counts s) (side s n).core (side_ok b s e n h) (load_checked b (loaded b s e) n h).0 (which b.wrapper n h) (copies_log b.wrapper) (known s) (known_held b s e) (shelf_of s)
      (shelves_held b s e) x m st.is st.short_outputs st.few

  -- a state with a side put anew that has grown
  module _ (n : ℕ) (h : has_side (wrapper_of b) n ≡ true) (o : Side) (more : (side s n).core.contents.minted ≤ o.core.contents.minted) (longer : length (side s n).core.shelf ≤ length o.core.shelf) where
    pos : 1 ≤ n
    pos = (positive n (which b.wrapper n h)).0

    lt : n ≤ length s.sides
    lt = omega (arith, (positive n (which b.wrapper n h)).1, size b s e)

    pub put_counts_lem : Le (counts s) (counts (put_side s n o))
    put_counts_lem m = rw (count_is s m, count_is (put_side s n o) m) (put_each s n o pos lt (λ (k : ℕ) (u : Side). (side s k).core.contents.minted ≤ u.core.contents.minted) more (λ k q. omega arith) m)

    pub put_shelves : (m : ℕ) → length (shelf_of s m) ≤ length (shelf_of (put_side s n o) m)
    put_shelves m = put_each s n o pos lt (λ (k : ℕ) (u : Side). length (side s k).core.shelf ≤ length u.core.shelf) longer (λ k q. omega arith) m

    pub put_mine : count_of (counts (put_side s n o)) n ≡ o.core.contents.minted
    put_mine = count_is (put_side s n o) n ∙ ap (λ (u : Side). u.core.contents.minted) (put_same s n o pos lt)

    pub put_ready : wf_side (setting b n) (counts (put_side s n o)) (shelf_of (put_side s n o)) o ≡ true → ready b (put_side s n o) ≡ true
    unfolding ready wf_state wf_side_of
    put_ready w = both _ _ (loaded b s e) (both _ _ (rw (put_size s n o) (fst _ _ (wf b s e))) (every_has (wf_side_of b (put_side s n o)) all_sides (λ k q. each k q)))
      where
        others : (k : ℕ) (t : Bool) → cond t (wf_side (setting b k) (counts s) (shelf_of s) (side s k)) (is_no_side (side s k)) ≡ true →
            cond t (wf_side (setting b k) (counts (put_side s n o)) (shelf_of (put_side s n o)) (side s k)) (is_no_side (side s k)) ≡ true
        others k true q = side_mono (setting b k) (counts s) (counts (put_side s n o)) (shelf_of s) (shelf_of (put_side s n o)) put_counts_lem put_shelves (side s k) q
        others k false q = q

        here : cond (has_side (wrapper_of b) n) (wf_side (setting b n) (counts (put_side s n o)) (shelf_of (put_side s n o)) o) (is_no_side o) ≡ true
        here = ap (λ (t : Bool). cond t (wf_side (setting b n) (counts (put_side s n o)) (shelf_of (put_side s n o)) o) (is_no_side o)) h ∙ w

        each : (k : ℕ) → has k all_sides ≡ true → wf_side_of b (put_side s n o) k ≡ true
        each k = put_each s n o pos lt (λ (k : ℕ) (u : Side). has k all_sides ≡ true → cond (has_side (wrapper_of b) k) (wf_side (setting b k) (counts (put_side s n o)) (shelf_of (put_side s n o)) u) (is_no_side u) ≡ true)
            (λ q. here) (λ k ne q. others k (has_side (wrapper_of b) k) (at_side b s e k q)) k

  after : (n : ℕ) → has_side (wrapper_of b) n ≡ true → (x : Step) (r : Res Moved) → settled (local (setting b n) (known s) (shelf_of s) (side s n).core x) ≡ r → ready b (put_side s n (side_after (side s n) r)) ≡ true
  after n h x (refuse k) p = ap (ready b) (put_self s n) ∙ e
  after n h x (done m) p =
      let kp = side_keeps n h x m p in
      let o = side_after (side s n) (done m) in
      put_ready n h o kp.more kp.shelf
      (side_after_lem (setting b n) (counts s) (counts (put_side s n o)) (shelf_of s) (shelf_of (put_side s n o)) (put_counts_lem n h o kp.more kp.shelf) (put_shelves n h o kp.more kp.shelf) (side s n) _ _ _ m kp
      (put_mine n h o kp.more kp.shelf) in-range (side_wf b s e n h))
    where
      in-range : (k i : ℕ) → i < length (shelf_of s k) → (1 ≤ k) × (i < 32)
      in-range zero i l = absurd (omega arith)
      in-range (suc k) i l = (omega arith, omega (arith, shelf_few (suc k)))

pub keeps : (b : Composition) (s : State) (x : Step) → ready b s ≡ true → ready b (step b s x).after ≡ true
unfolding step ◌&◌
keeps b s x e = go (has_side (wrapper_of b) x.side) refl
  where
    go : (t : Bool) → has_side (wrapper_of b) x.side ≡ t → ready b (step b s x).after ≡ true
    go true h = rw (e, h, step) (after b s e x.side h x _ refl)
    go false h = rw (e, h, step) e
