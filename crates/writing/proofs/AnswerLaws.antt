-- The lines that are read from words, and the lines of the answers that the words give.
use mathlib.Core.Path.{◌≡◌, refl, sym, ◌∙◌, ap}
use mathlib.Core.List.{List, [], ◌∷◌, ◌++◌, append_assoc, append-nil}
use Prim.Native.Nat.{ℕ, zero, suc, ◌+◌, ◌-◌, ◌*◌, ◌≤◌, ◌<◌, min}
use native.Mathlib.Nat.{add-zero, add-suc, suc-add}
use native.Mathlib.Numerals.{add-one}
use native.Mathlib.Omega.{arith}
use borrow.Author.Tests.{le-leb, lt-leb}
use lib.ListN.{length, take, drop, replicate, length-append, length-replicate, length-take, take-append-drop}
use lib.Seq.{take_at, drop_at, drop-drop}
use Rattle.model.specs.Basics.{choose}
use Rattle.model.specs.Step.{silent, enters, leaves, logs, Answer, labelled, refusal}
use Rattle.model.specs.Answer.{value_by}
use Rattle.format.specs.Lines.{newline}
use Rattle.format.specs.Words.{answer_words, all_answer_words}
use Rattle.format.specs.Output.{decimal, fields, word_in, word_out, word_log, word_ok, saying, answer_lines}
use Rattle.writing.specs.Words.{value_in, saying_in, line_in, answer_at, lines_in, answered_in}

-- THE LINES AS THE CODE WRITES THEM

-- no line, and one line more
pub lines_none : (k : ℕ) (ws : List ℕ) → lines_in k 0 ws ≡ []
unfolding lines_in
lines_none k ws = refl

lines_behind : (k n : ℕ) (ws : List ℕ) → lines_in k n ws ++ line_in (k + n) (answer_at (k + n) ws) ≡ lines_in k (suc n) ws
unfolding lines_in
lines_behind k zero ws = rw (add-zero k) (sym (append-nil (line_in k (answer_at k ws))))
lines_behind k (suc n) ws =
    let first = line_in k (answer_at k ws) in
    let next : k + suc n ≡ suc k + n = add-suc k n ∙ sym (suc-add k n) in
    append_assoc first _ _ ∙ ap (λ (l : List ℕ). first ++ l) (rw next (lines_behind (suc k) n ws))

pub lines_more : (k : ℕ) (ws : List ℕ) → lines_in 0 k ws ++ line_in k (answer_at k ws) ≡ lines_in 0 (k + 1) ws
lines_more k ws = let i : 0 + k ≡ k = omega arith in rw (add-one k) (rw i at (lines_behind 0 k ws))

-- up to 1,024 answers, and more
pub answered_few : (n : ℕ) (ws : List ℕ) → n ≤ 1024 → word_ok ++ (newline ∷ lines_in 0 n ws) ≡ answered_in n ws
unfolding answered_in choose
answered_few n ws h = simp (le-leb n 1024 h)

pub answered_many : (n : ℕ) (ws : List ℕ) → 1024 < n → [] ≡ answered_in n ws
unfolding answered_in choose
answered_many n ws h = simp (lt-leb n 1024 h)

-- THE LINES OF ANSWERS

-- how many words an answer takes
answer_length : (a : Answer) → length (answer_words a) ≡ 4 + (length (value_by a) + (16 - length (value_by a)))
answer_length (labelled silent n v) = omega (arith, length-append v (replicate (16 - length v) 0), length-replicate {A = ℕ} (16 - length v) 0)
answer_length (labelled enters n v) = omega (arith, length-append v (replicate (16 - length v) 0), length-replicate {A = ℕ} (16 - length v) 0)
answer_length (labelled leaves n v) = omega (arith, length-append v (replicate (16 - length v) 0), length-replicate {A = ℕ} (16 - length v) 0)
answer_length (labelled logs n v) = omega (arith, length-append v (replicate (16 - length v) 0), length-replicate {A = ℕ} (16 - length v) 0)
answer_length (refusal k n) = refl

all_length : (xs : List Answer) → 20 * length xs ≤ length (all_answer_words xs)
all_length [] = omega arith
all_length (a ∷ xs) = omega (arith, all_length xs, length-append (answer_words a) (all_answer_words xs), answer_length a)

-- a value out of its padded words
value_back : (v : List ℕ) → length v ≤ 16 → take (min (length v) 16) (v ++ replicate (16 - length v) 0) ≡ v
value_back v h = take_at v (replicate (16 - length v) 0) (min (length v) 16) (omega arith)

-- what the words say is what the answer says
says : (a : Answer) → length (answer_words a) ≡ 20 → saying_in (answer_words a) ≡ saying a
unfolding saying_in value_in
says (labelled silent n v) e = refl
says (labelled enters n v) e = ap (λ (l : List ℕ). word_in ++ (decimal n ++ fields l)) (value_back v (omega (arith, answer_length (labelled enters n v))))
says (labelled leaves n v) e = ap (λ (l : List ℕ). word_out ++ (decimal n ++ fields l)) (value_back v (omega (arith, answer_length (labelled leaves n v))))
says (labelled logs n v) e = ap (λ (l : List ℕ). word_log ++ (decimal n ++ fields l)) (value_back v (omega (arith, answer_length (labelled logs n v))))
says (refusal k n) e = refl

-- the line of the first answer, and the lines of the others
first_line : (k : ℕ) (a : Answer) (xs : List Answer) → length (answer_words a) ≡ 20 → line_in k (answer_words a) ++ answer_lines (suc k) xs ≡ answer_lines k (a ∷ xs)
unfolding answer_lines line_in
first_line k a xs e = rw (says a e) (simp append_assoc)

-- the lines of answers whose words stand from index k on, where all take 20 each
lines_of : (xs : List Answer) (k : ℕ) (ws rest : List ℕ) → length (all_answer_words xs) ≡ 20 * length xs → drop (20 * k) ws ≡ all_answer_words xs ++ rest → lines_in k (length xs) ws ≡ answer_lines k xs
unfolding lines_in answer_lines
lines_of [] k ws rest e h = refl
lines_of (a ∷ xs) k ws rest e h =
    let behind = all_answer_words xs ++ rest in
    let size : length (answer_words a) ≡ 20 = omega (arith, e, all_length xs, length-append (answer_words a) (all_answer_words xs), answer_length a) in
    let all : length (all_answer_words xs) ≡ 20 * length xs = omega (arith, e, size, length-append (answer_words a) (all_answer_words xs)) in
    let parted : drop (20 * k) ws ≡ answer_words a ++ behind = h ∙ append_assoc (answer_words a) (all_answer_words xs) rest in
    let here : answer_at k ws ≡ answer_words a = ap (take 20) parted ∙ take_at (answer_words a) behind 20 size in
    let i : 20 * suc k ≡ 20 * k + 20 = omega arith in
    let next : drop (20 * suc k) ws ≡ behind = ap (λ (j : ℕ). drop j ws) i ∙ sym (drop-drop 20 (20 * k) ws) ∙ ap (drop 20) parted ∙ drop_at (answer_words a) behind 20 size in
    ap (λ (l : List ℕ). line_in k l ++ lines_in (suc k) (length xs) ws) here
    ∙ ap (λ (l : List ℕ). line_in k (answer_words a) ++ l) (lines_of xs (suc k) ws rest all next)
    ∙ first_line k a xs size

-- what is written for words that give some answers
pub answered_lines : (n : ℕ) (ws : List ℕ) (xs : List Answer) → length xs ≡ n → n ≤ 1024 → take (20 * n) ws ≡ all_answer_words xs → answered_in n ws ≡ word_ok ++ (newline ∷ answer_lines 0 xs)
answered_lines n ws xs e h w =
    let size : length (all_answer_words xs) ≡ 20 * length xs = omega (arith, e, all_length xs, sym (ap length w), length-take (20 * n) ws) in
    let whole : ws ≡ all_answer_words xs ++ drop (20 * n) ws = sym (take-append-drop (20 * n) ws) ∙ ap (λ (l : List ℕ). l ++ drop (20 * n) ws) w in
    let lines : lines_in 0 n ws ≡ answer_lines 0 xs = ap (λ (m : ℕ). lines_in 0 m ws) (sym e) ∙ lines_of xs 0 ws (drop (20 * n) ws) size whole in
    sym (answered_few n ws h) ∙ ap (λ (l : List ℕ). word_ok ++ (newline ∷ l)) lines
