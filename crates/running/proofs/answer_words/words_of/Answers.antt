use mathlib.Core.Path.{◌≡◌, ap, ◌∙◌}
use mathlib.Core.List.{List, ◌∷◌, append-nil}
use Prim.Native.Nat.{ℕ}
use native.Mathlib.Omega.{arith}
use lib.ListN.{length}
use Rattle.values.specs.Env.{view_value}
use Rattle.running.proofs.RunLaws.{value_short, words_made}
use borrow.Author.Rules.{rules}
use Rattle.running.proofs.answer_words.words_of.Goals as goal

pub overflow_cast-words : goal.overflow_cast-words
overflow_cast-words c =
    let v = c.padded-v in
    let full : length v.result.words ≡ 16 = search (rules, c.well_formed) in
    omega (arith, v.ensures.len, value_short (view_value c.args.a.value) v.result.words v.ensures.words full)

pub returns : goal.returns
returns c =
    let v = c.padded-v in
    let said = c.label_word in
    let number = c.number_word in
    ap (λ (ws : List ℕ). said.result ∷ number.result ∷ c.args.a.side ∷ v.result.len ∷ ws) (append-nil _ ∙ c.copy_from_slice.ensures.after)
    ∙ words_made c.args.a.said said.result number.result c.args.a.side v.result.len _ v.result.words said.ensures number.ensures v.ensures.len v.ensures.words
