use Rattle.sides.proofs.Binding.{name_bound}
use Rattle.sides.proofs.environment.bind_name.Goals as goal

pub returns : goal.returns
returns c = name_bound c.args.e.now c.args.n c.args.name c.args.w
