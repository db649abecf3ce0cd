-- Answers of a run, and answers as words.
use mathlib.Core.Path.{◌≡◌, refl, ap, ◌∙◌}
use mathlib.Core.List.{List, [], ◌∷◌, ◌++◌, append_assoc}
use Prim.Native.Nat.{ℕ, zero, suc, ◌+◌, ◌-◌, ◌*◌, ◌≤◌}
use native.Mathlib.Omega.{arith}
use lib.ListN.{length, take, drop, replicate, length-append, length-replicate}
use lib.Seq.{take-append_seam, drop_at}
use Rattle.model.specs.Side.{State}
use Rattle.model.specs.Load.{Composition}
use Rattle.model.specs.Step.{silent, enters, leaves, logs, Step, Answer, labelled, refusal, step}
use Rattle.model.specs.Answer.{value_by}
use Rattle.model.specs.Runs.{answers}
use Rattle.format.specs.Words.{answer_words, all_answer_words, answer_of, answers_of}

-- each step has its answer
pub answers_many : (b : Composition) (s : State) (xs : List Step) → length (answers b s xs) ≡ length xs
unfolding answers
answers_many b s [] = refl
answers_many b s (x ∷ xs) = ap suc (answers_many b (step b s x).after xs)

-- HOW MANY WORDS an answer takes
pub answer_length : (a : Answer) → length (answer_words a) ≡ 4 + (length (value_by a) + (16 - length (value_by a)))
answer_length (labelled silent n v) = omega (arith, length-append v (replicate (16 - length v) 0), length-replicate {A = ℕ} (16 - length v) 0)
answer_length (labelled enters n v) = omega (arith, length-append v (replicate (16 - length v) 0), length-replicate {A = ℕ} (16 - length v) 0)
answer_length (labelled leaves n v) = omega (arith, length-append v (replicate (16 - length v) 0), length-replicate {A = ℕ} (16 - length v) 0)
answer_length (labelled logs n v) = omega (arith, length-append v (replicate (16 - length v) 0), length-replicate {A = ℕ} (16 - length v) 0)
answer_length (refusal k n) = refl

pub all_length : (xs : List Answer) → 20 * length xs ≤ length (all_answer_words xs)
all_length [] = omega arith
all_length (a ∷ xs) = omega (arith, all_length xs, length-append (answer_words a) (all_answer_words xs), answer_length a)

-- THE ANSWERS OF WORDS that are those of some answers
value_back : (v rest : List ℕ) (k : ℕ) → take (length v) ((v ++ replicate k 0) ++ rest) ≡ v
value_back v rest k = ap (take (length v)) (append_assoc v (replicate k 0) rest) ∙ take-append_seam v (replicate k 0 ++ rest)

answer_back : (a : Answer) (rest : List ℕ) → answer_of (answer_words a ++ rest) ≡ a
answer_back (labelled silent n v) rest = ap (labelled silent n) (value_back v rest (16 - length v))
answer_back (labelled enters n v) rest = ap (labelled enters n) (value_back v rest (16 - length v))
answer_back (labelled leaves n v) rest = ap (labelled leaves n) (value_back v rest (16 - length v))
answer_back (labelled logs n v) rest = ap (labelled logs n) (value_back v rest (16 - length v))
answer_back (refusal k n) rest = refl

pub words_answers : (xs : List Answer) (rest : List ℕ) → length (all_answer_words xs) ≡ 20 * length xs → answers_of (length xs) (all_answer_words xs ++ rest) ≡ xs
unfolding answers_of
words_answers [] rest e = refl
words_answers (a ∷ xs) rest e =
    let behind = all_answer_words xs ++ rest in
    let size : length (answer_words a) ≡ 20 = omega (arith, e, all_length xs, length-append (answer_words a) (all_answer_words xs), answer_length a) in
    let all : length (all_answer_words xs) ≡ 20 * length xs = omega (arith, e, size, length-append (answer_words a) (all_answer_words xs)) in
    let parted : (answer_words a ++ all_answer_words xs) ++ rest ≡ answer_words a ++ behind = append_assoc (answer_words a) (all_answer_words xs) rest in
    ap (λ (l : List ℕ). answer_of l ∷ answers_of (length xs) (drop 20 l)) parted
    ∙ ap (λ (y : Answer). y ∷ answers_of (length xs) (drop 20 (answer_words a ++ behind))) (answer_back a behind)
    ∙ ap (λ (l : List ℕ). a ∷ answers_of (length xs) l) (drop_at (answer_words a) behind 20 size)
    ∙ ap (λ (ys : List Answer). a ∷ ys) (words_answers xs rest all)

-- there are as many as are read
pub answers_read : (n : ℕ) (ws : List ℕ) → length (answers_of n ws) ≡ n
unfolding answers_of
answers_read zero ws = refl
answers_read (suc n) ws = ap suc (answers_read n (drop 20 ws))
