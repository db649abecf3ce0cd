-- What the words of an answer say, case by case, and its line.
use mathlib.Core.Path.{◌≡◌}
use mathlib.Core.List.{List, [], ◌∷◌, ◌++◌, append_assoc}
use Prim.Native.Nat.{ℕ, ◌+◌, ◌-◌, min}
use native.Mathlib.Omega.{arith}
use borrow.Author.Tests.{eq-eqb, ne_eqb}
use lib.ListN.{take, drop, get_or}
use Rattle.format.specs.Lines.{tab, newline}
use Rattle.format.specs.Output.{decimal, fields, word_in, word_out, word_log, word_tau, word_no}
use Rattle.writing.specs.Words.{value_in, saying_in, line_in}

-- the side and the value words, as the code reads them
pub value_in_lem : (ws : List ℕ) (side n : ℕ) → side ≡ get_or ws 2 0 → n ≡ min (get_or ws 3 0) 16 → decimal side ++ fields (take (4 + n - 4) (drop 4 ws)) ≡ value_in ws
unfolding value_in
value_in_lem ws side n s e =
    let i : 4 + n - 4 ≡ min (get_or ws 3 0) 16 = omega arith in
    rw (s, i)

-- by the first word: silent, in, out, log, and any other
pub says_silent : (ws : List ℕ) → get_or ws 0 0 ≡ 0 → word_tau ≡ saying_in ws
unfolding saying_in
says_silent ws e = simp (eq-eqb _ _ e)

pub says_enters : (ws : List ℕ) → get_or ws 0 0 ≡ 1 → word_in ++ value_in ws ≡ saying_in ws
unfolding saying_in
says_enters ws e = rw e

pub says_leaves : (ws : List ℕ) → get_or ws 0 0 ≡ 2 → word_out ++ value_in ws ≡ saying_in ws
unfolding saying_in
says_leaves ws e = rw e

pub says_logs : (ws : List ℕ) → get_or ws 0 0 ≡ 4 → word_log ++ value_in ws ≡ saying_in ws
unfolding saying_in
says_logs ws e = rw e

pub says_refused : (ws : List ℕ) (n : ℕ) → (get_or ws 0 0 ≡ 0 → ⊥) → (get_or ws 0 0 ≡ 1 → ⊥) → (get_or ws 0 0 ≡ 2 → ⊥) → (get_or ws 0 0 ≡ 4 → ⊥) → n ≡ get_or ws 1 0 → word_no ++ fields (n ∷ []) ≡ saying_in ws
unfolding saying_in
says_refused ws n a b c d e = simp (e, ne_eqb _ _ a, ne_eqb _ _ b, ne_eqb _ _ c, ne_eqb _ _ d)

-- the words of the answer with an index
pub part_at : (answers : List ℕ) (from : ℕ) → take (from + 20 - from) (drop from answers) ≡ take 20 (drop from answers)
part_at answers from =
    let e : from + 20 - from ≡ 20 = omega arith in
    rw e

-- the parts of a line joined
pub line_in_lem : (k : ℕ) (ws vs : List ℕ) → vs ≡ ws → ((decimal k ++ (tab ∷ [])) ++ saying_in vs) ++ (newline ∷ []) ≡ line_in k ws
unfolding line_in
line_in_lem k ws vs e = rw e (simp append_assoc)
