use Rattle.std.proofs.Common.{rules, ◌≡◌, ◌∙◌, length}
use Rattle.std.proofs.lemmas.Iterator.{YieldsList-from_slice, YieldsList-from_zip}
use Rattle.std.proofs.lemmas.Iterator.Search.{all_from_yields_List}
use Rattle.values.proofs.Lists.{unmap}
use native.Mathlib.Omega.{arith}
use Rattle.test_output.specs.Same.{same_message}
use Rattle.test_output.proofs.SameLaws.{pairs_same}
use Rattle.test_output.proofs.same.same_messages.Goals as goal

pub returns : goal.returns
returns c =
    let x = c.args in
    let a : length x.a.now ≡ 16 = search unmap in
    let b : length x.b.now ≡ 16 = search unmap in
    let pairs = YieldsList-from_zip {s = c.zip.result} (YieldsList-from_slice x.a.now (search rules)) (YieldsList-from_slice x.b.now (search rules)) in
    all_from_yields_List (λ p. same_message p.0 p.1) c.all.new.self _ c.all.result c.all.ensures.ran pairs (λ p t q call. search rules)
    ∙ pairs_same same_message x.a.now x.b.now (omega (arith, a, b))
