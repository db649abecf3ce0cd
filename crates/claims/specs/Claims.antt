-- A maker's own trace (document 02, 2.4): the steps he says he made and the visible labels he says came out, both as words, record by record.
use Rattle.std.specs.Prelude.{Bool, true, false, List, [], ◌∷◌, ◌++◌, ℕ, zero, suc, ◌+◌, ◌-◌, eqb, leb, length, get_or, take}
use Rattle.std.proofs.Math.Option.{Option, none, some}
use Rattle.model.specs.Basics.{◌&◌, choose}
use Rattle.model.specs.Side.{State}
use Rattle.model.specs.Load.{Composition, Refused, Loaded, refused, ok, load}
use Rattle.model.specs.Step.{silent, enters, leaves, logs, Answer, labelled, refusal, step}
use Rattle.format.specs.Words.{step_at}

-- RECORDS

-- the records of a list of words; the last may break off
pub data Records : Type 0 where
  end breaks_off : Records
  next : List ℕ → Records → Records

-- how many words the record at the front of a list asks for: so many before the count of its value words, the count, and these
abbrev pub asks : (before : ℕ) → List ℕ → ℕ
asks b ws = b + 1 + get_or ws b 0

-- the records of a list, past c words that the record before has; one that asks for more words than there are breaks off
unfoldable pub records_past : (before : ℕ) → List ℕ → (c : ℕ) → Records
records_past b [] c = end
records_past b (w ∷ ws) (suc c) = records_past b ws c
records_past b (w ∷ ws) zero =
    let n = asks b (w ∷ ws) in
    choose (leb n (length (w ∷ ws))) (next (take n (w ∷ ws)) (records_past b ws (n - 1))) breaks_off

-- a step is kind, side, i, j, count and value words; a label is channel, side, count and value words
abbrev pub step_records : List ℕ → Records
step_records ws = records_past 4 ws 0

abbrev pub label_records : List ℕ → Records
label_records ws = records_past 2 ws 0

-- WHAT COMES OUT

-- the record of an answer's visible label, on channel 0 `in`, 1 `out` or 3 `log`; none with a silent label or a refusal
abbrev pub visible : Answer → List (List ℕ)
visible (labelled silent n v) = []
visible (labelled enters n v) = (0 ∷ n ∷ length v ∷ v) ∷ []
visible (labelled leaves n v) = (1 ∷ n ∷ length v ∷ v) ∷ []
visible (labelled logs n v) = (3 ∷ n ∷ length v ∷ v) ∷ []
visible (refusal k n) = []

-- the step was legal
abbrev pub is_label : Answer → Bool
is_label (labelled l n v) = true
is_label (refusal k n) = false

-- the visible labels of the steps, from the state s on
unfoldable pub trace_of : Composition → State → (steps : Records) → List (List ℕ)
trace_of b s end = []
trace_of b s breaks_off = []
trace_of b s (next r rs) = let x = step b s (step_at r 0) in visible x.answer ++ trace_of b x.after rs

-- THE CHECK

-- the first step, counted from k on, that is refused or whose record breaks off
unfoldable pub step_fault : Composition → State → (k : ℕ) → (steps : Records) → Option ℕ
step_fault b s k end = none
step_fault b s k breaks_off = some k
step_fault b s k (next r rs) = let x = step b s (step_at r 0) in choose (is_label x.answer) (step_fault b x.after (k + 1) rs) (some k)

-- two lists have the same words
abbrev pub same_words : List ℕ → List ℕ → Bool
same_words [] [] = true
same_words [] (w ∷ ws) = false
same_words (v ∷ vs) [] = false
same_words (v ∷ vs) (w ∷ ws) = eqb v w & same_words vs ws

-- the first place, counted from k on, where the trace and the claimed labels part: another label, one too few, one too many, or a
-- record that breaks off
unfoldable pub label_fault : (k : ℕ) → (trace : List (List ℕ)) → (claimed : Records) → Option ℕ
label_fault k [] end = none
label_fault k [] breaks_off = some k
label_fault k [] (next c cs) = some k
label_fault k (v ∷ vs) end = some k
label_fault k (v ∷ vs) breaks_off = some k
label_fault k (v ∷ vs) (next c cs) = choose (same_words v c) (label_fault (k + 1) vs cs) (some k)

-- what the checker says: accepted, load's refusal, 20 with the first step at fault, or 21 with the first label at fault
pub data Verdict : Type 0 where
  accepted : Verdict
  unloaded : Refused → Verdict
  step_at_fault label_at_fault : ℕ → Verdict

-- labels count only where no step is at fault
abbrev pub judged : (steps labels : Option ℕ) → Verdict
judged (some k) l = step_at_fault k
judged none (some k) = label_at_fault k
judged none none = accepted

abbrev pub check_from : Composition → (steps labels : Records) → Loaded → Verdict
check_from b xs cs (refused e) = unloaded e
check_from b xs cs (ok s) = judged (step_fault b s 0 xs) (label_fault 0 (trace_of b s xs) cs)

unfoldable pub check_trace : Composition → (steps labels : List ℕ) → Verdict
check_trace b ws ls = check_from b (step_records ws) (label_records ls) (load b)

-- a verdict by its numbers: 0 for accepted, else the refusal's, its side, and its node or the index at fault
abbrev pub number_of : Verdict → ℕ
number_of accepted = 0
number_of (unloaded e) = e.number
number_of (step_at_fault k) = 20
number_of (label_at_fault k) = 21

abbrev pub side_in : Verdict → ℕ
side_in accepted = 0
side_in (unloaded e) = e.side
side_in (step_at_fault k) = 0
side_in (label_at_fault k) = 0

abbrev pub index_of : Verdict → ℕ
index_of accepted = 0
index_of (unloaded e) = e.node
index_of (step_at_fault k) = k
index_of (label_at_fault k) = k
