use mathlib.Core.Path.{refl}
use mathlib.Core.Bool.{false}
use Rattle.values.specs.Env.{tuple_of}
use Rattle.environments.proofs.Slots.{tuple_itself}
use borrow.Author.Rules.{rules}
use native.Mathlib.Omega.{arith}
use Rattle.environments.proofs.defined.tuple_names.Goals as goal

pub by_names-requires : goal.by_names-requires
by_names-requires c =
    let f = c.requires in
    (omega arith, (f, λ k h κs r a b d u v. (f.long, omega (arith, h, f.few))))

pub returns : goal.returns
returns c = c.by_names.ensures tuple_of false (λ k y h p. search rules) (λ m h. tuple_itself m _ h refl)
