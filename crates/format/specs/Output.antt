-- What `bench` writes: lines of tab-parted fields, each line ended by a newline.
use Rattle.std.specs.Prelude.{cond, List, [], ◌∷◌, ◌++◌, ℕ, zero, suc, ◌+◌, ◌/◌, ◌%◌, ltb}
use Rattle.model.specs.Load.{Refused, refused, ok, load}
use Rattle.model.specs.Step.{silent, enters, leaves, logs, Answer, labelled, refusal}
use Rattle.model.specs.Runs.{answers}
use Rattle.format.specs.Lines.{tab, newline, Input, fault, whole, reading}

-- the decimal digits of a number under 10 ^ k, with no zeros in front
unfoldable pub decimal_digits : (k : ℕ) → ℕ → List ℕ
decimal_digits zero n = []
decimal_digits (suc k) n = cond (ltb n 10) ((48 + n) ∷ []) (decimal_digits k (n / 10) ++ ((48 + n % 10) ∷ []))

abbrev pub decimal : ℕ → List ℕ
decimal n = decimal_digits 20 n

-- numbers, each behind a tab
abbrev pub fields : List ℕ → List ℕ
fields [] = []
fields (n ∷ ns) = tab ∷ (decimal n ++ fields ns)

-- line, in, out, log, tau, no, refused, ok
abbrev pub word_line : List ℕ
word_line = 108 ∷ 105 ∷ 110 ∷ 101 ∷ []

abbrev pub word_in : List ℕ
word_in = 105 ∷ 110 ∷ []

abbrev pub word_out : List ℕ
word_out = 111 ∷ 117 ∷ 116 ∷ []

abbrev pub word_log : List ℕ
word_log = 108 ∷ 111 ∷ 103 ∷ []

abbrev pub word_tau : List ℕ
word_tau = 116 ∷ 97 ∷ 117 ∷ []

abbrev pub word_no : List ℕ
word_no = 110 ∷ 111 ∷ []

abbrev pub word_refused : List ℕ
word_refused = 114 ∷ 101 ∷ 102 ∷ 117 ∷ 115 ∷ 101 ∷ 100 ∷ []

abbrev pub word_ok : List ℕ
word_ok = 111 ∷ 107 ∷ []

-- what a step's answer says: `in`, `out` or `log` with the side and the value words, `tau`, or `no` and the number
abbrev pub saying : Answer → List ℕ
saying (labelled silent n v) = word_tau
saying (labelled enters n v) = word_in ++ (decimal n ++ fields v)
saying (labelled leaves n v) = word_out ++ (decimal n ++ fields v)
saying (labelled logs n v) = word_log ++ (decimal n ++ fields v)
saying (refusal k n) = word_no ++ fields (k ∷ [])

-- a line for each answer: its index, and what it says
unfoldable pub answer_lines : (index : ℕ) → List Answer → List ℕ
answer_lines k [] = []
answer_lines k (a ∷ xs) = decimal k ++ (tab ∷ (saying a ++ (newline ∷ answer_lines (suc k) xs)))

-- the line of an input at fault, and of a load that is refused
abbrev pub fault_line : ℕ → List ℕ
fault_line n = word_line ++ (fields (n ∷ []) ++ (newline ∷ []))

abbrev pub refused_line : Refused → List ℕ
refused_line e = word_refused ++ (fields (e.number ∷ e.side ∷ e.node ∷ []) ++ (newline ∷ []))

-- the output for what the lines give
unfoldable pub output_for : Input → List ℕ
output_for i = elim (load i.loads) [
  | refused e ↦ refused_line e
  | ok s ↦ word_ok ++ (newline ∷ answer_lines 0 (answers i.loads s i.steps))
]

-- the output for an input
unfoldable pub output : List ℕ → List ℕ
output bs = elim (reading bs) [ fault n ↦ fault_line n | whole i ↦ output_for i ]
