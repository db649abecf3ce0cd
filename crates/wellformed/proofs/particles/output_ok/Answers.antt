use Rattle.std.proofs.Common.{rules}
use Rattle.model.specs.Basics.{◌&◌}
use Rattle.sides.specs.Layout.{row_at}
use Rattle.wellformed.specs.Clauses.{output_held}
use Rattle.wellformed.proofs.ParticleLaws.{output_fits}
use Rattle.wellformed.proofs.particles.output_ok.Goals as goal

pub value_at-requires : goal.value_at-requires
value_at-requires c =
    let f = c.requires.0 in
    (f.long, f.row, search rules, output_fits (row_at c.args.words.now c.args.i) f.fits c.requires.1)

pub returns-then-held_tag : goal.returns-then-held_tag
unfolding output_held ◌&◌
returns-then-held_tag c = search rules

pub returns-else-held_tag : goal.returns-else-held_tag
unfolding output_held ◌&◌
returns-else-held_tag c = search rules
