-- What answers in 20 words each say, read from the words.
use Rattle.std.specs.Prelude.{cond, List, [], ◌∷◌, ◌++◌, ℕ, zero, suc, ◌*◌, min, leb, eqb, get_or, take, drop}
use Rattle.model.specs.Basics.{choose}
use Rattle.format.specs.Lines.{tab, newline}
use Rattle.format.specs.Output.{decimal, fields, word_in, word_out, word_log, word_tau, word_no, word_ok}

-- the side and the value words
unfoldable pub value_in : List ℕ → List ℕ
value_in ws = decimal (get_or ws 2 0) ++ fields (take (min (get_or ws 3 0) 16) (drop 4 ws))

-- `tau`, `in`, `out` or `log` with the side and the value words, or `no` and the number
unfoldable pub saying_in : List ℕ → List ℕ
saying_in ws =
    cond (eqb (get_or ws 0 0) 0) word_tau
    (cond (eqb (get_or ws 0 0) 1) (word_in ++ value_in ws)
    (cond (eqb (get_or ws 0 0) 2) (word_out ++ value_in ws)
    (cond (eqb (get_or ws 0 0) 4) (word_log ++ value_in ws) (word_no ++ fields (get_or ws 1 0 ∷ [])))))

-- the line of an answer: its index, and what it says
unfoldable pub line_in : (index : ℕ) → List ℕ → List ℕ
line_in k ws = decimal k ++ (tab ∷ (saying_in ws ++ (newline ∷ [])))

-- the words of the answer with an index
abbrev pub answer_at : (index : ℕ) → List ℕ → List ℕ
answer_at k ws = take 20 (drop (20 * k) ws)

-- the lines of n answers from index k on
unfoldable pub lines_in : (k n : ℕ) → List ℕ → List ℕ
lines_in k zero ws = []
lines_in k (suc n) ws = line_in k (answer_at k ws) ++ lines_in (suc k) n ws

-- the line `ok` and the lines of n answers; nothing where there are more than 1,024
unfoldable pub answered_in : (n : ℕ) → List ℕ → List ℕ
answered_in n ws = choose (leb n 1024) (word_ok ++ (newline ∷ lines_in 0 n ws)) []
