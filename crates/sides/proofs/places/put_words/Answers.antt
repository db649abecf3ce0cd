use Rattle.sides.proofs.Storing.{words_stored}
use Rattle.sides.proofs.places.put_words.Goals as goal

pub returns : goal.returns
returns c =
    let a = c.append_words-n in
    words_stored c.args.v.now a.new.v c.args.s.now a.result a.ensures.0 a.ensures.1
