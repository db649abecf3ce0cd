use Rattle.environments.proofs.Slots.{tuple_none, tuple_some}
use Rattle.environments.proofs.defined.tuple_in.Goals as goal

pub returns-then-e-a-ne0 : goal.returns-then-e-a-ne0
returns-then-e-a-ne0 c = let a = c.args in tuple_some a.e.now a.k c.requires.1 c.if-e-a-ne0.true

pub returns-else-e-a-ne0 : goal.returns-else-e-a-ne0
returns-else-e-a-ne0 c = let a = c.args in rw c.if-e-a-ne0.false (tuple_none a.e.now a.k c.requires.1 c.if-e-a-ne0.false)
