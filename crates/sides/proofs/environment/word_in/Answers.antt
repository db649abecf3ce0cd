use Rattle.sides.proofs.Reading.{last_is, last_none}
use Rattle.sides.proofs.Substituting.{word_none, word_empty, word_first}
use native.Mathlib.Omega.{arith}
use Rattle.sides.proofs.environment.word_in.Goals as goal

pub returns-then-e-a-eq0 : goal.returns-then-e-a-eq0
returns-then-e-a-eq0 c =
    let s = c.in-Some in
    word_empty c.args.e.now c.args.n c.args.w c.requires.0 c.requires.1 s.k (last_is _ _ _ _ _ s.ensures.found.0 s.ensures.found.1 s.ensures.last) s.ensures.found.0 c.if-e-a-eq0.true

pub returns-else-e-a-eq0 : goal.returns-else-e-a-eq0
returns-else-e-a-eq0 c =
    let s = c.in-Some in
    word_first c.args.e.now c.args.n c.args.w c.requires.0 c.requires.1 s.k (last_is _ _ _ _ _ s.ensures.found.0 s.ensures.found.1 s.ensures.last) s.ensures.found.0 c.if-e-a-eq0.false

pub returns-in-None : goal.returns-in-None
returns-in-None c = word_none c.args.e.now c.args.n c.args.w c.requires.0 c.requires.1 c.args.n (last_none _ _ _ c.args.n c.in-None.ensures.none) (omega arith)
