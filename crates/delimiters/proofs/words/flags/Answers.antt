-- The test on a word of eight bytes.
use Rattle.delimiters.proofs.FlagLaws.{filled, test, test_is}
use Rattle.delimiters.proofs.words.flags.Goals as goal

-- the constants are the bytes 127, 119, 117 and 128, eight times
pub returns : goal.returns
unfolding test filled
returns c = test_is 8 c.args.x
