use mathlib.Core.Path.{◌≡◌, sym, ap, ◌∙◌}
use Prim.Native.Nat.{◌*◌}
use native.Mathlib.Omega.{arith}
use lib.ListN.{length}
use Rattle.std.proofs.lemmas.Slice.{put_mid-paste}
use borrow.Author.Rules.{rules}
use Rattle.running.proofs.answer_words.put_answer.Goals as goal

pub returns : goal.returns
returns c =
    let w = c.words_of in
    let full : length w.result ≡ 20 = search (rules, w.type_inv) in
    let long = ap length (sym w.ensures) ∙ full in
    (long, put_mid-paste (20 * c.args.k) _ c.args.out.now _ _ 20 (c.copy_from_slice.ensures.after ∙ w.ensures) (omega arith) (sym long))
