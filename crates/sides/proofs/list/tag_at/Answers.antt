use mathlib.Core.Path.{ap₂, ◌∙◌}
use Prim.Native.Nat.{ℕ}
use Rattle.sides.specs.Layout.{tag_of}
use Rattle.sides.proofs.list.tag_at.Goals as goal

pub returns : goal.returns
returns c = c.tag_of.ensures ∙ ap₂ (λ (k n : ℕ). tag_of k n) c.word_at.ensures c.word_at-2.ensures
