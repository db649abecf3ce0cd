-- The answer is that of the letter's function.
use mathlib.Core.Path.{◌≡◌}
use borrow.Author.Rules.{rules}
use Rattle.reading.proofs.LetterLaws.{letter_w, letter_n, letter_v, letter_s, letter_other, by_letter}
use Rattle.reading.proofs.AnswerLaws.{is_fault}
use Rattle.reading.proofs.lines.on_line.Goals as goal

pub returns-in-87 : goal.returns-in-87
returns-in-87 c = λ i old e h. by_letter i _ _ _ _ _ _ (letter_w i _ _ c.in-87.is) (c.on_w.ensures _ i old e h)

pub returns-in-78 : goal.returns-in-78
returns-in-78 c = λ i old e h. by_letter i _ _ _ _ _ _ (letter_n i _ _ c.in-78.is) (c.on_n.ensures _ _ i old e h)

pub returns-in-86 : goal.returns-in-86
returns-in-86 c = λ i old e h. by_letter i _ _ _ _ _ _ (letter_v i _ _ c.in-86.is) (c.on_v.ensures _ _ i old e h)

pub returns-in-83 : goal.returns-in-83
returns-in-83 c = λ i old e h. by_letter i _ _ _ _ _ _ (letter_s i _ _ c.in-83.is) (c.on_s.ensures _ _ i old e h)

pub returns-in_default : goal.returns-in_default
returns-in_default c =
    let letter = c.args.l.now.letter in
    let w : letter ≡ 87 → ⊥ = search (rules, c.in_default) in
    let n : letter ≡ 78 → ⊥ = search (rules, c.in_default) in
    let v : letter ≡ 86 → ⊥ = search (rules, c.in_default) in
    let s : letter ≡ 83 → ⊥ = search (rules, c.in_default) in
    λ i old e h. is_fault i _ _ old _ e h (letter_other i _ _ w n v s)
