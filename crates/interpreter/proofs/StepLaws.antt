-- A step of a state by value, path by path.
use mathlib.Core.Path.{◌≡◌, refl, sym, ap, ap₂, subst, ◌∙◌}
use mathlib.Core.Bool.{Bool, true, false, false≢true}
use mathlib.Core.List.{List, [], ◌∷◌, ◌++◌, map, map-append}
use mathlib.Core.Option.{Option, none, some}
use Prim.Native.Nat.{ℕ, zero, suc, ◌+◌, ◌-◌, ◌<◌, ◌≤◌}
use native.Mathlib.Numerals.{add-one}
use native.Mathlib.Omega.{arith}
use borrow.Author.Tests.{ltb-true, ltb-false}
use lib.Dec.{ltb}
use lib.ListN.{length, take, get_or, set, length-map}
use lib.Seq.{set-get_or, get_or-set_same, take-suc, take-suc-set, take_all}
use Rattle.model.specs.Basics.{◌&◌, Res, every}
use Rattle.model.specs.Side.{Side as MSide, State as MState}
use Rattle.model.specs.Wrapper.{all_sides, described, has_side}
use Rattle.model.specs.Load.{Composition, Loaded, wrapper_of, Setting, is_ok, load}
use Rattle.model.specs.WellFormed.{wf_state, ready}
use Rattle.model.specs.Step.{Step, Moved, settled, local, refusal, Result, step, answer_to, after_step}
use Rattle.model.specs.Answer.{given}
use Rattle.model.proofs.Basics.Tests.{fst, snd, both}
use Rattle.values.specs.Env.{view_value}
use Rattle.sides.proofs.Lists.{map_set}
use Rattle.wrappers.specs.Compositions.{composition}
use Rattle.sides.specs.declared.Rest.{Rest}
use Rattle.sides.specs.declared.Side.{Side}
use Rattle.sides.specs.declared.State.{State}
use Rattle.sides.specs.Sides.{core_of, fits_side, view_side, view_state, state_of, fits_arrays}
use Rattle.steps.specs.declared.Said.{Said}
use Rattle.steps.specs.declared.Said.TheVariants as said
use Rattle.steps.proofs.Settling.{no_left, no_right}
use Rattle.answers.specs.Answers.{given_for, is_refusal}
use Rattle.answers.proofs.AnswerLaws.{same_given}
use Rattle.steps.specs.declared.RestStep.{RestStep}
use Rattle.steps.specs.Asked.{known_by}
use Rattle.dispatch.specs.Stepping.{setting_of, OwnReady}
use Rattle.dispatch.specs.Sharing.{shelves_in, shelved_of, Shelves, sides_in, state_in, Lent, AtSide, marked_by, MarkedAt}
use Rattle.dispatch.proofs.AllSides.{shelves_of}
use Rattle.dispatch.proofs.InState as there
use Rattle.model.proofs.Formed.Invariant.{which}
use Rattle.std.specs.Prelude.{Ok, Err}
use Rattle.std.specs.declared.result.Result as rust
use Rattle.std.specs.Result as rust_result
use Rattle.loading.specs.declared.LoadRefusal.{LoadRefusal}
use Rattle.loading.specs.Loading.{refusal_of, refusal_in}
use Rattle.loading.proofs.Faults.{map_at, ok_taken, ok_loads, refused_loads}
use Rattle.loading.proofs.Starting.{has_place}
use Rattle.wellformed.specs.Clauses.{TablesPass, shelved_in}
use Rattle.interpreter.specs.declared.Stepped.{Stepped}
use Rattle.interpreter.specs.Answered.{words_in, rests_in, left_in, AllLong, put_at, Answered, given_of, ResultIs, RefusedTen, StepAnswered}
use Rattle.answers.specs.Answers.{said_of}

-- the first k of a list are a part of each of the first k sides
abbrev pub Filled : {B : Type 0} → (Side → B) → List Side → ℕ → List B → Type 0
Filled f l k x = take k x ≡ map f (take k l)

-- what a struct is as a state
pub state_some : (s : State) → fits_arrays s ≡ true → state_of s ≡ some (view_state s)
state_some s e = rw e

pub state_none : (s : State) → fits_arrays s ≡ false → state_of s ≡ none
state_none s e = rw e

pub every_in : {A : Type 0} (f : A → Bool) (l : List A) (k : ℕ) (d : A) → k < length l → every f l ≡ true → f (get_or l k d) ≡ true
every_in f [] k d h e = absurd (omega arith)
every_in f (x ∷ l) zero d h e = fst _ _ e
every_in f (x ∷ l) (suc k) d h e = every_in f l k d (omega arith) (snd _ _ e)

every_set : {A : Type 0} (f : A → Bool) (l : List A) (k : ℕ) (x : A) → every f l ≡ true → f x ≡ true → every f (set l k x) ≡ true
every_set f [] k x e g = e
every_set f (y ∷ l) zero x e g = both _ _ g (snd _ _ e)
every_set f (y ∷ l) (suc k) x e g = both _ _ (fst _ _ e) (every_set f l k x (snd _ _ e) g)

-- THE SIDES BY THEIR PARTS
parts_of_lem : (l : List Side) → map view_side l ≡ sides_in (map (λ (o : Side). o.words) l) (map (λ (o : Side). o.rest) l) (map (λ (o : Side). o.left) l)
unfolding sides_in
parts_of_lem [] = refl
parts_of_lem (o ∷ l) = ap (λ (x : List MSide). view_side o ∷ x) (parts_of_lem l)

-- what is lent of it
lent_of : (s : State) → length s.sides ≡ length all_sides → AllLong (words_in s) → fits_arrays s ≡ true → Lent (words_in s) (rests_in s) (left_in s)
lent_of s full long f =
    record {
      words = length-map s.sides (λ (o : Side). o.words) ∙ full;
      rests = length-map s.sides (λ (o : Side). o.rest) ∙ full;
      marks = length-map s.sides (λ (o : Side). o.left) ∙ full;
      long = long.long;
      fits = λ k d h. fits_at_lem k d (omega (arith, full));
    }
  where
    blank : Rest → Side
    blank d = record { words = []; rest = d; left = [] }

    fits_at_lem : (k : ℕ) (d : Rest) → k < length s.sides → fits_side (get_or (words_in s) k []) (get_or (rests_in s) k d) ≡ true
    fits_at_lem k d h =
        ap₂ fits_side (sym (map_at (λ (o : Side). o.words) s.sides k (blank d) [] h)) (sym (map_at (λ (o : Side). o.rest) s.sides k (blank d) d h)) ∙
        every_in (λ (o : Side). fits_side o.words o.rest) s.sides k (blank d) h f

shelved_is : (l : List Side) → map (λ (o : Side). o.rest.shelved) l ≡ shelved_of (map (λ (o : Side). o.rest) l)
shelved_is [] = refl
shelved_is (o ∷ l) = ap (λ (x : List ℕ). o.rest.shelved ∷ x) (shelved_is l)

-- the shelves, under other names
pub shelves : (s : State) → length s.sides ≡ length all_sides → AllLong (words_in s) → fits_arrays s ≡ true → (rows : List (List ℕ)) (hs : List ℕ) → rows ≡ words_in s → hs ≡ shelved_in s → Shelves rows hs
shelves s full long f rows hs er eh =
    let lent = lent_of s full long f in
    subst (λ (l : List (List ℕ)). Shelves l hs) (sym er) (shelves_of (words_in s) (rests_in s) (left_in s) lent hs (eh ∙ shelved_is s.sides))

-- A LIST FILLED from another, place by place
module _ {A B : Type 0} (f : A → B) (l : List A) where
  pub fill_more : (x : List B) (k : ℕ) (d : A) → k < length x → k < length l → take k x ≡ map f (take k l) → take (k + 1) (set x k (f (get_or l k d))) ≡ map f (take (k + 1) l)
  fill_more x k d a b e =
      ap (λ (n : ℕ). take n (set x k (f (get_or l k d)))) (add-one k) ∙ take-suc-set x k (f (get_or l k d)) a ∙ ap (λ (y : List B). y ++ (f (get_or l k d) ∷ [])) e ∙
      sym (map-append f (take k l) (get_or l k d ∷ [])) ∙ ap (map f) (sym (take-suc l k d b)) ∙ ap (λ (n : ℕ). map f (take n l)) (sym (add-one k))

  pub fill_all : (x : List B) (k : ℕ) → length x ≤ k → length l ≤ k → take k x ≡ map f (take k l) → x ≡ map f l
  fill_all x k a b e = sym (take_all k x a) ∙ e ∙ ap (map f) (take_all k l b)

-- sides that have all their words, the first k of them
pub record LongTo (k : ℕ) (ls : List (List ℕ)) : Type 0 where
  pub long : (i : ℕ) → i < k → length (get_or ls i []) ≡ 5184

pub long_none : (ls : List (List ℕ)) → LongTo 0 ls
long_none ls = record { long = λ i h. absurd (omega arith) }

pub long_more : (l : List Side) (k : ℕ) (d : Side) → k < length l → length (get_or l k d).words ≡ 5184 → LongTo k (map (λ (o : Side). o.words) l) → LongTo (k + 1) (map (λ (o : Side). o.words) l)
long_more l k d h e g = record { long = λ i a. by i a (ltb i k) refl }
  where
    by : (i : ℕ) → i < k + 1 → (b : Bool) → ltb i k ≡ b → length (get_or (map (λ (o : Side). o.words) l) i []) ≡ 5184
    by i a true z = g.long i (ltb-true i k z)
    by i a false z =
        let q : i ≡ k = let y = ltb-false i k z in omega arith in
        ap (λ (j : ℕ). length (get_or (map (λ (o : Side). o.words) l) j [])) q ∙ ap length (sym (map_at (λ (o : Side). o.words) l k d [] h)) ∙ e

pub long_all : (ls : List (List ℕ)) (k : ℕ) → length all_sides ≤ k → LongTo k ls → AllLong ls
long_all ls k h g = record { long = λ i a. g.long i (omega arith) }

-- WHETHER A STATE IS READY
ok_same : (l : Loaded) (a : rust.Result Unit LoadRefusal) → refusal_of a ≡ refusal_in l → rust_result.is_ok a ≡ is_ok l
ok_same l (Ok u) e = sym (ok_loads l (Ok u) u e refl)
ok_same l (Err f) e = sym (ap is_ok (refused_loads l (Err f) f e refl))

module _ (b : Composition) (s : State) (a : rust.Result Unit LoadRefusal) (e : refusal_of a ≡ refusal_in (load b)) where
  pub ready_refused : rust_result.is_ok a ≡ false → false ≡ fits_arrays s & ready b (view_state s)
  unfolding ready
  ready_refused z = sym (no_right _ _ (no_left _ _ (sym (ok_same (load b) a e) ∙ z)))

  module _ (z : rust_result.is_ok a ≡ true) where
    loads : is_ok (load b) ≡ true
    loads = sym (ok_same (load b) a e) ∙ z

    pub tables_pass : TablesPass b
    tables_pass = λ n h. ((ok_taken b loads).sides n (which b.wrapper n h) h).passes

    pub ready_formed : (r : Bool) → r ≡ fits_arrays s & wf_state b (view_state s) → r ≡ fits_arrays s & ready b (view_state s)
    unfolding ready ◌&◌
    ready_formed r q = q ∙ ap (λ (x : Bool). fits_arrays s & (x & wf_state b (view_state s))) (sym loads)

-- AN ANSWER AS IT IS GIVEN
pub given_is : (y : Said) (n : ℕ) (l : List ℕ) (t : State) (r : Stepped) → Answered y n l t r → given_of r ≡ given_for y n l
given_is y n l t r h = same_given (ap said_of h.says) h.side h.value.len h.value.words

pub refused_ten : (n : ℕ) (s : State) (l : List ℕ) (r : Stepped) → l ≡ [] → Answered (said.Refused 10) n l s r → RefusedTen n s r
refused_ten n s l r e h = record { answer = given_is (said.Refused 10) n l s r h ∙ ap (given_for (said.Refused 10) n) e; kept = h.state }

-- A STEP OF A SIDE that the wrapper has: ts and us are the lent slices, k is the side's place
module _ {A : Type 0} (f : A → List ℕ) (w : ℕ) (ts us : List A) (dt du : A) (s : State) (dd : Side) (n k : ℕ) (tl : length ts ≡ length all_sides) (ul : length us ≡ length all_sides) (full : length s.sides ≡ length all_sides)
    (long : AllLong (words_in s)) (fits : fits_arrays s ≡ true) (e : ready (composition w (map f ts) (map f us)) (view_state s) ≡ true) (h : has_side (described w) n ≡ true) (place : k ≡ n - 1) where
  abbrev b : Composition
  b = composition w (map f ts) (map f us)

  abbrev st : MState
  st = state_in (words_in s) (rests_in s) (left_in s)

  lent : Lent (words_in s) (rests_in s) (left_in s)
  lent = lent_of s full long fits

  as_lent : view_state s ≡ st
  as_lent = ap (λ (x : List MSide). record { sides = x }) (parts_of_lem s.sides)

  ready_lent : ready b st ≡ true
  ready_lent = ap (ready b) (sym as_lent) ∙ e

  ns_long : length (map f ts) ≡ length all_sides
  ns_long = length-map ts f ∙ tl

  ps_long : length (map f us) ≡ length all_sides
  ps_long = length-map us f ∙ ul

  within : n - 1 < length all_sides
  within = has_place w n h

  abbrev o : Rest
  o = (get_or s.sides k dd).rest

  rest_is : o ≡ get_or (rests_in s) (n - 1) dd.rest
  rest_is = map_at (λ (x : Side). x.rest) s.sides k dd dd.rest (omega (arith, within)) ∙ ap (λ (j : ℕ). get_or (rests_in s) j dd.rest) place

  setting_is : setting_of w n (f (get_or ts k dt)) (f (get_or us k du)) ≡ setting_of w n (get_or (map f ts) (n - 1) []) (get_or (map f us) (n - 1) [])
  setting_is = ap₂ (setting_of w n) (map_at f ts k dt [] (omega (arith, within)) ∙ ap (λ (j : ℕ). get_or (map f ts) j []) place) (map_at f us k du [] (omega (arith, within)) ∙ ap (λ (j : ℕ). get_or (map f us) j []) place)

  -- the same lists under other names: what is taken out of the state, and how many values the shelves have
  module _ (rows : List (List ℕ)) (marks : List (List Bool)) (hs : List ℕ) (er : rows ≡ words_in s) (em : marks ≡ left_in s) (eh : hs ≡ shelved_in s) where
    abbrev old : Rest
    old = get_or (rests_in s) (n - 1) dd.rest

    abbrev set1 : Setting
    set1 = setting_of w n (f (get_or ts k dt)) (f (get_or us k du))

    abbrev set2 : Setting
    set2 = setting_of w n (get_or (map f ts) (n - 1) []) (get_or (map f us) (n - 1) [])

    pub own : OwnReady set1 (get_or rows (n - 1) []) o
    own =
        let z = there.own_ready w (map f ts) (map f us) (words_in s) (rests_in s) (left_in s) lent ns_long ps_long ready_lent dd.rest n h in
        let y = subst (λ (q : Rest). OwnReady set2 (get_or (words_in s) (n - 1) []) q) (sym rest_is) z in
        let x = subst (λ (c : Setting). OwnReady c (get_or (words_in s) (n - 1) []) o) (sym setting_is) y in
        subst (λ (l : List (List ℕ)). OwnReady set1 (get_or l (n - 1) []) o) (sym er) x

    -- AFTER THE STEP: the side at place k is put back
    module _ (x : Step) (same : x.side ≡ n) (rows' : List (List ℕ)) (marks' : List (List Bool)) (d : RestStep)
        (is : AtSide (settled (local set1 (known_by marks) (shelves_in rows hs) (core_of (get_or rows (n - 1) []) o) x)) rows (n - 1) o rows' d)
        (mk : MarkedAt d.said (view_value d.value) marks (n - 1) marks') where
      abbrev move_by : Setting → List (List Bool) → List (List ℕ) → List ℕ → Rest → Res Moved
      move_by c m l y q = settled (local c (known_by m) (shelves_in l y) (core_of (get_or l (n - 1) []) q) x)

      at_state : AtSide (move_by set2 (left_in s) (words_in s) (shelved_of (rests_in s)) old) (words_in s) (n - 1) old rows' d
      at_state =
          let a = subst (λ (l : List (List ℕ)). AtSide (move_by set1 marks l hs o) l (n - 1) o rows' d) er is in
          let b = subst (λ (m : List (List Bool)). AtSide (move_by set1 m (words_in s) hs o) (words_in s) (n - 1) o rows' d) em a in
          let c = subst (λ (y : List ℕ). AtSide (move_by set1 (left_in s) (words_in s) y o) (words_in s) (n - 1) o rows' d) (eh ∙ shelved_is s.sides) b in
          let e = subst (λ (q : Rest). AtSide (move_by set1 (left_in s) (words_in s) (shelved_of (rests_in s)) q) (words_in s) (n - 1) q rows' d) rest_is c in
          subst (λ (y : Setting). AtSide (move_by y (left_in s) (words_in s) (shelved_of (rests_in s)) old) (words_in s) (n - 1) old rows' d) setting_is e

      marks_state : MarkedAt d.said (view_value d.value) (left_in s) (n - 1) marks'
      marks_state = subst (λ (m : List (List Bool)). MarkedAt d.said (view_value d.value) m (n - 1) marks') em mk

      abbrev left' : List Bool
      left' = marked_by d.said (view_value d.value) (get_or (left_in s) (n - 1) [])

      in_sides : n - 1 < length s.sides
      in_sides = omega (arith, within, full)

      words_now : (q : List ℕ) → get_or rows' k q ≡ at_state.words
      words_now q = ap₂ (λ (l : List (List ℕ)) (j : ℕ). get_or l j q) at_state.others place ∙ get_or-set_same (words_in s) (n - 1) at_state.words q (omega (arith, within, lent.words))

      marks_now : (q : List Bool) → get_or marks' k q ≡ left'
      marks_now q = ap₂ (λ (l : List (List Bool)) (j : ℕ). get_or l j q) marks_state.is place ∙ get_or-set_same (left_in s) (n - 1) left' q (omega (arith, within, lent.marks))

      abbrev after : Side
      after = record { words = at_state.words; rest = d.rest; left = left' }

      put_now : (q : List ℕ) (p : List Bool) → put_at s k (get_or rows' k q) d.rest (get_or marks' k p) ≡ record { sides = set s.sides (n - 1) after }
      put_now q p = parts (words_now q) (marks_now p) place
        where
          parts : {a b : List ℕ} {u v : List Bool} {i j : ℕ} → a ≡ b → u ≡ v → i ≡ j → put_at s i a d.rest u ≡ put_at s j b d.rest v
          parts y z t = rw (y, z, t)

      view_now : view_state (record { sides = set s.sides (n - 1) after }) ≡ state_in rows' (set (rests_in s) (n - 1) d.rest) marks'
      view_now =
          ap (λ (l : List MSide). record { sides = l })
          (parts_of_lem (set s.sides (n - 1) after) ∙
          parts (set_at (λ (y : Side). y.words) ∙ sym at_state.others) (set_at (λ (y : Side). y.rest)) (set_at (λ (y : Side). y.left) ∙ sym marks_state.is))
        where
          set_at : {B : Type 0} (g : Side → B) → map g (set s.sides (n - 1) after) ≡ set (map g s.sides) (n - 1) (g after)
          set_at g = map_set g s.sides (n - 1) after

          parts : {a b : List (List ℕ)} {u v : List Rest} {i j : List (List Bool)} → a ≡ b → u ≡ v → i ≡ j → sides_in a u i ≡ sides_in b v j
          parts y z t = rw (y, z, t)

      -- a refusal: the side put back is the one that stood there
      kept_now : is_refusal (step b st x).answer ≡ true → record { sides = set s.sides (n - 1) after } ≡ s
      kept_now q =
          let y = there.kept_is w (map f ts) (map f us) (words_in s) (rests_in s) (left_in s) lent ns_long ps_long ready_lent dd.rest n h x same rows' marks' d at_state marks_state q in
          let there' : Side = get_or s.sides (n - 1) dd in
          let l = y.0 ∙ sym (map_at (λ (z : Side). z.words) s.sides (n - 1) dd [] in_sides) in
          let r = y.1 ∙ sym (map_at (λ (z : Side). z.rest) s.sides (n - 1) dd dd.rest in_sides) in
          let m = y.2 ∙ sym (map_at (λ (z : Side). z.left) s.sides (n - 1) dd [] in_sides) in
          ap (λ (z : Side). record { sides = set s.sides (n - 1) z }) (parts l r m) ∙ ap (λ (z : List Side). record { sides = z }) (set-get_or s.sides (n - 1) dd)
        where
          parts : {a b : List ℕ} {u v : Rest} {i j : List Bool} → a ≡ b → u ≡ v → i ≡ j → ◌≡◌ {A = Side} (record { words = a; rest = u; left = i }) (record { words = b; rest = v; left = j })
          parts y z t = rw (y, z, t)

      pub result : (q : List ℕ) (p : List Bool) (t : State) (r : Stepped) → t ≡ put_at s k (get_or rows' k q) d.rest (get_or marks' k p) → Answered d.said n (view_value d.value) t r → ResultIs (step b (view_state s) x) s r
      result q p t r y a =
          let z = a.state ∙ y ∙ put_now q p in
          let back : step b st x ≡ step b (view_state s) x = ap (λ (y : MState). step b y x) (sym as_lent) in
          record {
            answer =
                given_is d.said n (view_value d.value) _ r a ∙
                there.answer_is w (map f ts) (map f us) (words_in s) (rests_in s) (left_in s) lent ns_long ps_long ready_lent dd.rest n h x same rows' marks' d at_state marks_state ∙
                ap (λ (y : Result). given y.answer) back;
            after =
                ap view_state z ∙ view_now ∙
                there.after_is w (map f ts) (map f us) (words_in s) (rests_in s) (left_in s) lent ns_long ps_long ready_lent dd.rest n h x same rows' marks' d at_state marks_state ∙
                ap (λ (y : Result). y.after) back;
            arrays =
                ap fits_arrays z ∙
                every_set (λ (y : Side). fits_side y.words y.rest) s.sides (n - 1) after fits
                (there.step_fits _ _ old at_state.words d (lent.fits (n - 1) dd.rest within) at_state.step);
            kept = λ y. z ∙ kept_now (ap (λ (t : Result). is_refusal t.answer) back ∙ y);
          }

-- A STEP of what may be no state
module _ (b : Composition) (s : State) (x : Step) (r : Stepped) where
  -- no such side: 10, and nothing is changed
  pub step_none : fits_arrays s ≡ true → ready b (view_state s) ≡ true → has_side (wrapper_of b) x.side ≡ false → RefusedTen x.side s r → ResultIs (step b (view_state s) x) s r
  step_none f e q h =
      subst (λ (y : Result). ResultIs y s r) (sym (there.none_asked b (view_state s) x e q))
      (record { answer = h.answer; after = ap view_state h.kept; arrays = ap fits_arrays h.kept ∙ f; kept = λ z. h.kept })

  pub step_ready : fits_arrays s ≡ true → ResultIs (step b (view_state s) x) s r → StepAnswered b s x r
  unfolding answer_to after_step
  step_ready f h =
      let z = state_some s f in
      record {
        answer = h.answer ∙ ap given (sym (ap (λ (o : Option MState). answer_to b o x) z));
        after = state_some r.state h.arrays ∙ ap some h.after ∙ sym (ap (λ (o : Option MState). after_step b o x) z);
        kept = λ y. h.kept (sym (ap (λ (o : Option MState). is_refusal (answer_to b o x)) z) ∙ y);
      }

  -- not ready: 10, and nothing is changed
  pub step_unready : fits_arrays s & ready b (view_state s) ≡ false → RefusedTen x.side s r → StepAnswered b s x r
  unfolding answer_to after_step step ◌&◌
  step_unready e h = go (fits_arrays s) refl (ready b (view_state s)) refl
    where
      build : (o : Option MState) → state_of s ≡ o → answer_to b o x ≡ refusal 10 x.side → after_step b o x ≡ o → StepAnswered b s x r
      build o z p q = record {
        answer = h.answer ∙ ap given (sym (ap (λ (y : Option MState). answer_to b y x) z ∙ p));
        after = ap state_of h.kept ∙ z ∙ sym (ap (λ (y : Option MState). after_step b y x) z ∙ q);
        kept = λ y. h.kept;
      }

      go : (p : Bool) → fits_arrays s ≡ p → (q : Bool) → ready b (view_state s) ≡ q → StepAnswered b s x r
      go false p q z = build none (state_none s p) refl refl
      go true p false z = build (some (view_state s)) (state_some s p) (rw (z, step, answer_to)) (rw (z, step, after_step))
      go true p true z = absurd (false≢true (sym e ∙ both _ _ p z))
