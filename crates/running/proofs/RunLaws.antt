-- A run by words.
use mathlib.Core.Path.{◌≡◌, refl, sym, ap, ap₂, subst, ◌∙◌}
use mathlib.Core.Bool.{Bool, true, false}
use mathlib.Core.List.{List, [], ◌∷◌, ◌++◌, append-nil, append_assoc}
use mathlib.Core.Option as maybe
use Prim.Native.Nat.{ℕ, ◌+◌, ◌-◌, ◌*◌, ◌/◌, ◌<◌, ◌≤◌}
use native.Mathlib.Omega.{arith}
use borrow.Author.Tests.{lt-ltb, le-ltb}
use lib.Dec.{ltb}
use lib.ListN.{length, get_or, take, drop, replicate, length-append, take-append-drop}
use lib.Seq.{paste, take_all, length-take-le, drop-drop, length-paste, take-paste, drop-paste}
use Rattle.std.specs.Prelude.{Some, None, Ok, Err}
use Rattle.std.specs.declared.option.Option.{Option}
use Rattle.std.specs.declared.result.Result.{Result}
use Rattle.std.proofs.lemmas.Option.{none-some, same_Some}
use Rattle.model.specs.Basics.{choose}
use Rattle.model.specs.Side.{State as MState}
use Rattle.model.specs.Load.{Composition, refused, ok, load}
use Rattle.model.specs.Step.{Step, step}
use Rattle.model.specs.Runs.{answers}
use Rattle.model.proofs.Basics.Tests.{some_inj}
use Rattle.format.specs.Words.{before, steps_of, step_at, said_words, given_words, answer_words, all_answer_words, answers_of, too_short, answered, run_from, run_steps, run_of}
use Rattle.format.specs.Words.{Ran as FRan}
use Rattle.format.proofs.AnswerWords.{answers_many, words_answers}
use Rattle.format.proofs.StepWords.{steps_end, Next, next_step}
use Rattle.steps.specs.declared.Said.{Said}
use Rattle.steps.specs.declared.Said.TheVariants as said
use Rattle.answers.specs.Answers.{said_of, given_for}
use Rattle.execution.specs.Execution.{record_end}
use Rattle.execution.proofs.RecordEnds.{steps_found, steps_broken}
use Rattle.loading.specs.declared.LoadRefusal.{LoadRefusal}
use Rattle.loading.specs.Loading.{told_by}
use Rattle.running.specs.declared.RunError.{RunError}
use Rattle.running.specs.declared.RunError.TheVariants as error
use Rattle.running.specs.Running.{count_of, Put, RunIs}

-- HOW MANY STEPS
-- n steps before a count
abbrev pub plus : ℕ → Option ℕ → Option ℕ
plus n None = None
plus n (Some m) = Some (n + m)

pub plus_none : (r : Option ℕ) → r ≡ plus 0 r
plus_none None = refl
plus_none (Some m) = ap Some (omega arith)

count_before : (n : ℕ) (x : Step) (r : maybe.Option (List Step)) → plus n (count_of (before x r)) ≡ plus (n + 1) (count_of r)
unfolding before
count_before n x maybe.none = refl
count_before n x (maybe.some xs) = ap Some (omega arith)

-- a record is found, with which a step is counted
pub count_next : (l : List ℕ) (p n e : ℕ) (z : Option ℕ) → record_end 4 l p ≡ Some e → z ≡ plus n (count_of (steps_of (drop p l))) → z ≡ plus (n + 1) (count_of (steps_of (drop e l)))
count_next l p n e z f h =
    h
    ∙ ap (λ (r : maybe.Option (List Step)). plus n (count_of r)) (steps_found l p e f)
    ∙ count_before n (step_at l p) (steps_of (drop e l))

-- or none, where words are left
pub count_broken : (l : List ℕ) (p n : ℕ) (z : Option ℕ) → p < length l → record_end 4 l p ≡ None → z ≡ plus n (count_of (steps_of (drop p l))) → None ≡ z
count_broken l p n z a f h = sym (h ∙ ap (λ (r : maybe.Option (List Step)). plus n (count_of r)) (steps_broken l p a f))

pub count_end : (l : List ℕ) (p n : ℕ) (z : Option ℕ) → length l ≤ p → z ≡ plus n (count_of (steps_of (drop p l))) → Some n ≡ z
count_end l p n z h e = sym (e ∙ ap (λ (r : maybe.Option (List Step)). plus n (count_of r)) (steps_end l p h) ∙ ap Some (omega arith))

-- AN ANSWER IN WORDS
two_said : (y : Said) → said_words (said_of y) ≡ get_or (said_words (said_of y)) 0 0 ∷ get_or (said_words (said_of y)) 1 0 ∷ []
two_said said.Silent = refl
two_said said.In = refl
two_said said.Out = refl
two_said said.Log = refl
two_said (said.Refused n) = refl

-- its four words before the value's, and these with zeros past them
pub words_made : (y : Said) (a b s n : ℕ) (l ws : List ℕ) → a ≡ get_or (said_words (said_of y)) 0 0 → b ≡ get_or (said_words (said_of y)) 1 0 → n ≡ length l →
    ws ≡ l ++ replicate (16 - length l) 0 → a ∷ b ∷ s ∷ n ∷ ws ≡ given_words (given_for y s l)
words_made y a b s n l ws p q z e =
    ap₂ (λ (i j : ℕ). i ∷ j ∷ s ∷ n ∷ ws) p q
    ∙ ap (λ (x : List ℕ). x ++ (s ∷ n ∷ ws)) (sym (two_said y))
    ∙ ap₂ (λ (i : ℕ) (x : List ℕ). said_words (said_of y) ++ (s ∷ i ∷ x)) z e

-- a value has at most 16 words, since with the zeros behind it there are 16
pub value_short : (v ws : List ℕ) → ws ≡ v ++ replicate (16 - length v) 0 → length ws ≡ 16 → length v ≤ 16
value_short v ws e h = omega (arith, ap length e, length-append v (replicate (16 - length v) 0))

-- THE RUN
-- the words written so far, and the steps still to come
pub record Running (b : Composition) (s : MState) (l lent : List ℕ) (n k p : ℕ) (t : MState) (out : List ℕ) : Type 0 where
  pub rest : List Step
  pub left : steps_of (drop p l) ≡ maybe.some rest
  pub many : k + length rest ≡ n
  pub size : length out ≡ length lent
  pub same : drop (20 * k) out ≡ drop (20 * k) lent
  pub total : (xs : List Step) → steps_of l ≡ maybe.some xs → all_answer_words (answers b s xs) ≡ take (20 * k) out ++ all_answer_words (answers b t rest)

pub run_start : (b : Composition) (s : MState) (l lent : List ℕ) (n : ℕ) → count_of (steps_of l) ≡ Some n → Running b s l lent n 0 0 s lent
run_start b s l lent n e = by (steps_of l) refl
  where
    by : (o : maybe.Option (List Step)) → steps_of l ≡ o → Running b s l lent n 0 0 s lent
    by maybe.none q = absurd (none-some _ (sym (ap count_of q) ∙ e))
    by (maybe.some xs) q =
        record {
          rest = xs;
          left = q;
          many = omega (arith, same_Some _ _ (sym (ap count_of q) ∙ e));
          size = refl;
          same = refl;
          total = λ ys f. ap (λ (zs : List Step). all_answer_words (answers b s zs)) (some_inj (sym f ∙ q));
        }

-- with a step to come, its words lie within the list
pub record Coming (l : List ℕ) (p : ℕ) (rest : List Step) : Type 0 where
  pub first : Step
  pub others : List Step
  pub is : rest ≡ first ∷ others
  pub next : Next l p first others

module _ {b : Composition} {s : MState} {l lent : List ℕ} {n k p : ℕ} {t : MState} {out : List ℕ} (h : Running b s l lent n k p t out) where
  pub coming : k < n → Coming l p h.rest
  coming lt = by h.rest h.left h.many
    where
      by : (r : List Step) → steps_of (drop p l) ≡ maybe.some r → k + length r ≡ n → Coming l p r
      by [] e m = absurd (omega arith)
      by (x ∷ xs) e m = record { first = x; others = xs; is = refl; next = next_step l p x xs e }

  pub next_head : k < n → p + 5 ≤ length l
  next_head lt = (coming lt).next.head

  pub next_fits : k < n → get_or l (p + 4) 0 ≤ length l - (p + 5)
  next_fits lt = (coming lt).next.fits

  pub run_more : (lt : k < n) → 20 * n ≤ length lent → (u : MState) (ws new : List ℕ) (place : ℕ) → ws ≡ answer_words (step b t (step_at l p)).answer → length ws ≡ 20 →
      u ≡ (step b t (step_at l p)).after → new ≡ paste out (20 * k) ws 20 → place ≡ p + 5 + get_or l (p + 4) 0 → Running b s l lent n (k + 1) place u new
  unfolding answers
  run_more lt room u ws new place e len after put at =
      let y = coming lt in
      let x = step_at l p in
      let q : 20 * (k + 1) ≡ 20 * k + 20 = omega arith in
      let inside : 20 * k ≤ length out = omega (arith, h.size) in
      let all : 20 ≤ length ws = omega arith in
      let taken : take (20 * (k + 1)) new ≡ take (20 * k) out ++ ws =
      ap (λ (m : ℕ). take m new) q ∙ ap (take (20 * k + 20)) put ∙ take-paste out (20 * k) ws 20 inside all ∙ ap (λ (z : List ℕ). take (20 * k) out ++ z) (take_all 20 ws (omega arith)) in
      record {
        rest = y.others;
        left = ap (λ (m : ℕ). steps_of (drop m l)) at ∙ y.next.rest;
        many = omega (arith, h.many, ap length y.is);
        size = ap length put ∙ length-paste out (20 * k) ws 20 (omega (arith, h.size)) all ∙ h.size;
        same =
            ap (λ (m : ℕ). drop m new) q ∙ ap (drop (20 * k + 20)) put ∙ drop-paste out (20 * k) ws 20 inside all ∙
            sym (drop-drop 20 (20 * k) out) ∙ ap (drop 20) h.same ∙ drop-drop 20 (20 * k) lent ∙ ap (λ (m : ℕ). drop m lent) (sym q);
        total = λ xs f.
            h.total xs f
            ∙ ap (λ (r : List Step). take (20 * k) out ++ all_answer_words (answers b t r)) (y.is ∙ ap (λ (z : Step). z ∷ y.others) (sym y.next.step))
            ∙ sym (append_assoc (take (20 * k) out) (answer_words (step b t x).answer) (all_answer_words (answers b (step b t x).after y.others)))
            ∙ ap (λ (z : List ℕ). take (20 * k) out ++ z ++ all_answer_words (answers b (step b t x).after y.others)) (sym e)
            ∙ ap (λ (z : MState). take (20 * k) out ++ ws ++ all_answer_words (answers b z y.others)) (sym after)
            ∙ ap (λ (z : List ℕ). z ++ all_answer_words (answers b u y.others)) (sym taken);
      }

  pub run_end : n ≤ k → 20 * n ≤ length lent → (xs : List Step) → steps_of l ≡ maybe.some xs → Put (all_answer_words (answers b s xs)) n lent out
  unfolding answers
  run_end le room xs f = by h.rest refl
    where
      by : (r : List Step) → h.rest ≡ r → Put (all_answer_words (answers b s xs)) n lent out
      by (y ∷ ys) e = absurd (omega (arith, h.many, ap length e))
      by [] e =
          let w : all_answer_words (answers b s xs) ≡ take (20 * k) out =
          h.total xs f ∙ ap (λ (r : List Step). take (20 * k) out ++ all_answer_words (answers b t r)) e ∙ append-nil (take (20 * k) out) in
          let c : length (all_answer_words (answers b s xs)) ≡ 20 * k = ap length w ∙ length-take-le (20 * k) out (omega (arith, h.size, h.many)) in
          record {
            size = omega (arith, c, h.many, ap length e);
            words =
                sym (take-append-drop (20 * k) out)
                ∙ ap (λ (z : List ℕ). z ++ drop (20 * k) out) (sym w)
                ∙ ap (λ (z : List ℕ). all_answer_words (answers b s xs) ++ z) (h.same ∙ ap (λ (m : ℕ). drop m lent) (sym c));
          }

-- WHAT A RUN COMES TO
-- the state is the one that load leads to
pub put_from : (b : Composition) (s t : MState) (xs : List Step) (n : ℕ) (lent new : List ℕ) → load b ≡ ok t → load b ≡ ok s →
    Put (all_answer_words (answers b t xs)) n lent new → Put (all_answer_words (answers b s xs)) n lent new
put_from b s t xs n lent new e f h =
    let same : t ≡ s = ok_same t s (sym e ∙ f) in
    subst (λ (y : MState). Put (all_answer_words (answers b y xs)) n lent new) same h
  where
    ok_same : (t s : MState) → ok t ≡ ok s → t ≡ s
    ok_same t s q = cc

pub has_room : (m n : ℕ) → n ≤ m / 20 → 20 * n ≤ m
has_room m n h = omega arith

-- a list that has n steps
pub record Has (o : maybe.Option (List Step)) (n : ℕ) : Type 0 where
  pub steps : List Step
  pub is : o ≡ maybe.some steps
  pub many : length steps ≡ n

pub has_steps : (o : maybe.Option (List Step)) (n : ℕ) → count_of o ≡ Some n → Has o n
has_steps maybe.none n e = absurd (none-some _ e)
has_steps (maybe.some xs) n e = record { steps = xs; is = refl; many = same_Some _ _ e }

no_steps : (o : maybe.Option (List Step)) → count_of o ≡ None → o ≡ maybe.none
no_steps maybe.none e = refl
no_steps (maybe.some xs) e = absurd (none-some _ (sym e))

run_by : {x y : FRan} {lent new : List ℕ} {r : Result ℕ RunError} → x ≡ y → RunIs y lent new r → RunIs x lent new r
run_by {lent = lent} {new = new} {r = r} e h = subst (λ (z : FRan). RunIs z lent new r) (sym e) h

module _ (b : Composition) (l lent : List ℕ) where
  pub run_broken : count_of (steps_of l) ≡ None → RunIs (run_of b l (length lent)) lent lent (Err error.BrokenOff)
  run_broken e = run_by (ap (run_steps b (length lent)) (no_steps (steps_of l) e)) (record { answer = refl; put = record { size = refl; words = refl } })

  module _ (n : ℕ) (h : Has (steps_of l) n) where
    by_room : (t : Bool) → ltb (length lent) (20 * length h.steps) ≡ t → run_of b l (length lent) ≡ choose t too_short (run_from b h.steps (load b))
    by_room t e = ap (run_steps b (length lent)) h.is ∙ ap (λ (x : Bool). choose x too_short (run_from b h.steps (load b))) e

    pub run_short : length lent / 20 < n → RunIs (run_of b l (length lent)) lent lent (Err error.TooShort)
    unfolding choose
    run_short lt = run_by (by_room true (lt-ltb (length lent) (20 * length h.steps) (omega (arith, h.many)))) (record { answer = refl; put = record { size = refl; words = refl } })

    room_left : n ≤ length lent / 20 → run_of b l (length lent) ≡ run_from b h.steps (load b)
    unfolding choose
    room_left room = by_room false (le-ltb (length lent) (20 * length h.steps) (omega (arith, h.many)))

    pub run_refused : n ≤ length lent / 20 → (f : LoadRefusal) → load b ≡ refused (told_by f) → RunIs (run_of b l (length lent)) lent lent (Err (error.Refused f))
    run_refused room f e = run_by (room_left room ∙ ap (run_from b h.steps) e) (record { answer = refl; put = record { size = refl; words = refl } })

    pub run_done : n ≤ length lent / 20 → (s : MState) → load b ≡ ok s → (new : List ℕ) →
        Put (all_answer_words (answers b s h.steps)) n lent new → RunIs (run_of b l (length lent)) lent new (Ok n)
    run_done room s e new w =
        let ys = answers b s h.steps in
        let ws = all_answer_words ys in
        let many : n ≡ length ys = sym h.many ∙ sym (answers_many b s h.steps) in
        let size : length ws ≡ 20 * length ys = w.size ∙ ap (λ (m : ℕ). 20 * m) many in
        let read : answers_of n new ≡ ys = ap₂ answers_of many w.words ∙ words_answers ys (drop (length ws) lent) size in
        run_by (room_left room ∙ ap (run_from b h.steps) e) (record { answer = ap answered read; put = record { size = size; words = w.words } })
