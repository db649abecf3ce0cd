-- A side's step where the lent words, rests and marks are a state that is well formed for tables that load takes.
use mathlib.Core.Path.{◌≡◌, refl, sym, ap, subst, ◌∙◌}
use mathlib.Core.Bool.{Bool, true, false, false≢true}
use mathlib.Core.List.{List, []}
use Prim.Native.Nat.{ℕ, ◌+◌, ◌-◌, ◌<◌, ◌≤◌}
use native.Mathlib.Omega.{arith}
use borrow.Author.Tests.{eqb-true, eqb-false}
use lib.Dec.{eqb}
use lib.ListN.{length, get_or, set, length-set}
use lib.Seq.{get_or-set_same, get_or-set_other}
use Rattle.model.specs.Basics.{◌&◌, Res, refuse, done}
use Rattle.model.specs.Table.{Table}
use Rattle.model.specs.Side.{Side, State, side, put_side}
use Rattle.model.specs.Wrapper.{all_sides, has_side}
use Rattle.model.specs.Load.{Composition, wrapper_of, setting}
use Rattle.model.specs.Load.{table as table_of}
use Rattle.model.specs.WellFormed.{counts, wf_core, wf_side, shelf_of, ready}
use Rattle.model.specs.Step.{Step, Moved, settled, local, known, refusal, answer_of, side_after, Result, step}
use Rattle.model.specs.Answer.{given}
use Rattle.model.proofs.Basics.Tests.{fst}
use Rattle.model.proofs.Formed.Invariant.{side_wf}
use Rattle.values.specs.Env.{view_value}
use Rattle.tables.specs.Nodes as slices
use Rattle.tables.specs.Checks.{Passes}
use Rattle.wrappers.specs.Compositions.{composition}
use Rattle.model.proofs.Formed.Invariant.{which}
use Rattle.sides.specs.declared.Rest.{Rest}
use Rattle.sides.specs.Sides.{core_of, fits_side}
use Rattle.loading.proofs.Faults.{Taken, ok_taken, table_at}
use Rattle.loading.proofs.Starting.{has_number, has_place}
use Rattle.answers.specs.Answers.{given_for, is_refusal}
use Rattle.answers.proofs.AnswerLaws.{step_given}
use Rattle.steps.specs.declared.Said.{Said}
use Rattle.steps.specs.declared.RestStep.{RestStep}
use Rattle.steps.specs.Asked.{known_by}
use Rattle.steps.specs.StepIs.{StepIs}
use Rattle.dispatch.specs.Stepping.{setting_of, OwnReady}
use Rattle.dispatch.specs.Sharing.{shelves_in, shelved_of, state_in, sides_in, Lent, AtSide, marked_by, MarkedAt}
use Rattle.dispatch.proofs.AllSides.{side_is, local_is, put_by, sides_set, side_after_lem}

-- the model's move of side k
abbrev move_at : Composition → State → Step → ℕ → Res Moved
move_at b s x k = settled (local (setting b k) (known s) (shelf_of s) (side s k).core x)

-- load takes the tables of a state that is ready
pub ready_taken : (b : Composition) (s : State) → ready b s ≡ true → Taken b
unfolding ready
ready_taken b s e = ok_taken b (fst _ _ e)

-- a side that the wrapper lacks: 10, and nothing changes
pub none_asked : (b : Composition) (s : State) (x : Step) → ready b s ≡ true → has_side (wrapper_of b) x.side ≡ false → step b s x ≡ record { answer = refusal 10 x.side; after = s }
unfolding step ◌&◌
none_asked b s x e h = rw (e, h, step)

-- what a side's step comes to
step_length : (x : Res Moved) (l : List ℕ) (o : Rest) (m : List ℕ) (r : RestStep) → StepIs x l o m r → length m ≡ length l
step_length (refuse n) l o m r h = ap length h.is.words
step_length (done d) l o m r h = h.is.long

pub step_fits : (x : Res Moved) (l : List ℕ) (o : Rest) (m : List ℕ) (r : RestStep) → fits_side l o ≡ true → StepIs x l o m r → fits_side m r.rest ≡ true
step_fits (refuse n) l o m r f h = ap (λ (w : List ℕ). fits_side w r.rest) h.is.words ∙ ap (fits_side l) h.is.kept ∙ f
step_fits (done d) l o m r f h = h.is.arrays

pub step_short : (x : Res Moved) (l : List ℕ) (o : Rest) (m : List ℕ) (r : RestStep) → StepIs x l o m r → r.value.len ≤ 16
step_short (refuse n) l o m r h = h.is.short_value
step_short (done d) l o m r h = h.is.short_value

-- a refusal leaves the words, the rest and the marks
step_refused : (x : Res Moved) (l : List ℕ) (o : Rest) (m : List ℕ) (r : RestStep) (n : ℕ) (v : List ℕ) (left : List Bool) → StepIs x l o m r → is_refusal (answer_of n x) ≡ true →
    (m ≡ l) × (r.rest ≡ o) × (marked_by r.said v left ≡ left)
step_refused (refuse k) l o m r n v left h e = (h.is.words, h.is.kept, ap (λ (s : Said). marked_by s v left) h.is.says)
step_refused (done d) l o m r n v left h e = absurd (false≢true e)

module _ (w : ℕ) (ns ps : List (List ℕ)) (ls : List (List ℕ)) (os : List Rest) (ms : List (List Bool)) (lent : Lent ls os ms) (nl : length ns ≡ length all_sides) (pl : length ps ≡ length all_sides)
    (e : ready (composition w ns ps) (state_in ls os ms) ≡ true) where
  abbrev b : Composition
  b = composition w ns ps

  abbrev st : State
  st = state_in ls os ms

  asked_is : (x : Step) → has_side (wrapper_of b) x.side ≡ true →
      step b st x ≡ record { answer = answer_of x.side (move_at b st x x.side); after = put_side st x.side (side_after (side st x.side) (move_at b st x x.side)) }
  unfolding step ◌&◌
  asked_is x h = rw (e, h, step)

  module _ (d : Rest) (n : ℕ) (h : has_side (wrapper_of b) n ≡ true) where
    first : 0 < n
    first = (has_number w n h).0

    place : n - 1 < length all_sides
    place = has_place w n h

    abbrev l : List ℕ
    l = get_or ls (n - 1) []

    abbrev o : Rest
    o = get_or os (n - 1) d

    table_is : table_of b n ≡ slices.table (get_or ns (n - 1) []) (get_or ps (n - 1) [])
    table_is =
        let z : n ≡ n - 1 + 1 = omega (arith, first) in
        ap (table_of b) z ∙ table_at w ns ps (n - 1) (omega (arith, place)) (omega (arith, place))

    -- it may be acted on
    pub own_ready : OwnReady (setting_of w n (get_or ns (n - 1) []) (get_or ps (n - 1) [])) l o
    unfolding wf_side
    own_ready =
        let t = (ready_taken b st e).sides n (which w n h) h in
        let f = fst _ _ (side_wf b st e n h) in
        record {
          narrow = omega (arith, (has_number w n h).1);
          passes = subst (λ (x : Table). Passes x) table_is t.passes;
          long = lent.long (n - 1) place;
          arrays = lent.fits (n - 1) d place;
          counts = counts st;
          formed = subst (λ (x : Table). wf_core (record { wrapper = wrapper_of b; side = n; table = x }) (counts st) (core_of l o) ≡ true) table_is
              (subst (λ (s : Side). wf_core (setting b n) (counts st) s.core ≡ true) (side_is ls os ms lent d n first place) f);
        }

    -- AFTER ITS STEP
    module _ (x : Step) (same : x.side ≡ n) (ls' : List (List ℕ)) (ms' : List (List Bool)) (r : RestStep)
        (is : AtSide (settled (local (setting_of w n (get_or ns (n - 1) []) (get_or ps (n - 1) [])) (known_by ms) (shelves_in ls (shelved_of os)) (core_of l o) x)) ls (n - 1) o ls' r)
        (mk : MarkedAt r.said (view_value r.value) ms (n - 1) ms') where
      abbrev move : Res Moved
      move = settled (local (setting_of w n (get_or ns (n - 1) []) (get_or ps (n - 1) [])) (known_by ms) (shelves_in ls (shelved_of os)) (core_of l o) x)

      step_is : step b st x ≡ record { answer = answer_of n move; after = put_side st n (side_after (side st n) move) }
      step_is =
          asked_is x (ap (has_side (wrapper_of b)) same ∙ h) ∙
          ap (λ (k : ℕ). record { answer = answer_of k (move_at b st x k); after = put_side st k (side_after (side st k) (move_at b st x k)) }) same ∙
          ap (λ (m : Res Moved). record { answer = answer_of n (settled m); after = put_side st n (side_after (side st n) (settled m)) })
          (local_is ls os ms lent d n first place b (get_or ns (n - 1) []) (get_or ps (n - 1) []) x table_is)

      pub answer_is : given_for r.said n (view_value r.value) ≡ given (step b st x).answer
      answer_is = step_given l o is.words r n move is.step ∙ ap (λ (y : Result). given y.answer) (sym step_is)

      pub after_is : state_in ls' (set os (n - 1) r.rest) ms' ≡ (step b st x).after
      after_is =
          let k : ℕ = n - 1 in
          let m : List Bool = marked_by r.said (view_value r.value) (get_or ms k []) in
          let there = sides_set ls os ms k is.words r.rest m (lent.rests ∙ sym lent.words) (lent.marks ∙ sym lent.words) in
          let now = side_after_lem move l o (get_or ms k []) is.words r is.step ∙ ap (λ (s : Side). side_after s move) (sym (side_is ls os ms lent d n first place)) in
          ap (λ (z : List (List ℕ)). state_in z (set os k r.rest) ms') is.others ∙ ap (state_in (set ls k is.words) (set os k r.rest)) mk.is ∙
          ap (λ (z : List Side). record { sides = z }) (there ∙ ap (set (sides_in ls os ms) k) now) ∙
          sym (put_by st n (side_after (side st n) move) first) ∙ ap (λ (y : Result). y.after) (sym step_is)

      -- a refusal leaves the words, the rest and the marks of the side
      pub kept_is : is_refusal (step b st x).answer ≡ true → (is.words ≡ l) × (r.rest ≡ o) × (marked_by r.said (view_value r.value) (get_or ms (n - 1) []) ≡ get_or ms (n - 1) [])
      kept_is q = step_refused move l o is.words r n (view_value r.value) (get_or ms (n - 1) []) is.step (ap (λ (y : Result). is_refusal y.answer) (sym step_is) ∙ q)

      -- what is lent is as before: each side with its words, its counts within their arrays
      pub lent_after_lem : Lent ls' (set os (n - 1) r.rest) ms'
      lent_after_lem =
          record {
            words = ap length is.others ∙ length-set ls (n - 1) is.words ∙ lent.words;
            rests = length-set os (n - 1) r.rest ∙ lent.rests;
            marks = ap length mk.is ∙ length-set ms (n - 1) _ ∙ lent.marks;
            long = λ k a. ap (λ (z : List (List ℕ)). length (get_or z k [])) is.others ∙ long_at_lem k a (eqb k (n - 1)) refl;
            fits = λ k q a. ap (λ (z : List (List ℕ)). fits_side (get_or z k []) (get_or (set os (n - 1) r.rest) k q)) is.others ∙ fits_at_lem k q a (eqb k (n - 1)) refl;
          }
        where
          in_words : (k : ℕ) → k < length all_sides → k < length ls
          in_words k a = omega (arith, lent.words)

          long_at_lem : (k : ℕ) → k < length all_sides → (t : Bool) → eqb k (n - 1) ≡ t → length (get_or (set ls (n - 1) is.words) k []) ≡ 5184
          long_at_lem k a true z =
              let q : k ≡ n - 1 = eqb-true k (n - 1) z in
              ap (λ (j : ℕ). length (get_or (set ls (n - 1) is.words) j [])) q ∙ ap length (get_or-set_same ls (n - 1) is.words [] (in_words (n - 1) place)) ∙
              step_length move l o is.words r is.step ∙ lent.long (n - 1) place
          long_at_lem k a false z = ap length (get_or-set_other ls (n - 1) k is.words [] (eqb-false k (n - 1) z)) ∙ lent.long k a

          fits_at_lem : (k : ℕ) (q : Rest) → k < length all_sides → (t : Bool) → eqb k (n - 1) ≡ t → fits_side (get_or (set ls (n - 1) is.words) k []) (get_or (set os (n - 1) r.rest) k q) ≡ true
          fits_at_lem k q a true z =
              let y : k ≡ n - 1 = eqb-true k (n - 1) z in
              ap (λ (j : ℕ). fits_side (get_or (set ls (n - 1) is.words) j []) (get_or (set os (n - 1) r.rest) j q)) y ∙
              ap (λ (v : List ℕ). fits_side v (get_or (set os (n - 1) r.rest) (n - 1) q)) (get_or-set_same ls (n - 1) is.words [] (in_words (n - 1) place)) ∙
              ap (fits_side is.words) (get_or-set_same os (n - 1) r.rest q (omega (arith, lent.rests, place))) ∙
              step_fits move l o is.words r (lent.fits (n - 1) d place) is.step
          fits_at_lem k q a false z =
              ap (λ (v : List ℕ). fits_side v (get_or (set os (n - 1) r.rest) k q)) (get_or-set_other ls (n - 1) k is.words [] (eqb-false k (n - 1) z)) ∙
              ap (fits_side (get_or ls k [])) (get_or-set_other os (n - 1) k r.rest q (eqb-false k (n - 1) z)) ∙ lent.fits k q a
