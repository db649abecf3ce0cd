-- The bytes from k on are in the word, the first of them lowest.
use mathlib.Core.Path.{◌≡◌}
use Prim.Native.Nat.{◌+◌, ◌-◌, ◌^◌, ◌<◌}
use Rattle.format.specs.Bytes.{slice}
use Rattle.delimiters.specs.Delimiters.{word}
use Rattle.delimiters.proofs.words.word_at.Given as goal

abbrev pub invariant-loop-k : goal.invariant-loop-k
invariant-loop-k l = (l.w < 256 ^ (8 - l.k)) × (l.w ≡ word (slice (l.at + l.k) (l.at + 8) l.s))
