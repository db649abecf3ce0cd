use Rattle.sides.proofs.Binding.{words_bound}
use Rattle.sides.proofs.environment.bind_words.Goals as goal

pub returns : goal.returns
returns c =
    words_bound c.args.e.now _ c.args.n c.args.name c.args.s.now c.requires.0 c.requires.1 c.requires.2 c.put_words.ensures
