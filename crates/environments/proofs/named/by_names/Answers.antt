-- Each slot's name has what f says of the slot in turn; a number past 63 leaves the list as it is.
use mathlib.Core.Path.{◌≡◌, refl, sym, ap, ◌∙◌}
use lib.ListN.{length, set, length-set, replicate, get_or, get_or-replicate}
use lib.Seq.{set_out}
use Rattle.environments.proofs.Slots.{names_none, names_next, names_all}
use native.Mathlib.Omega.{arith}
use Rattle.environments.proofs.named.by_names.Goals as goal
use Rattle.environments.proofs.named.by_names.Goals.{then-x-lt-NAMES, else-x-lt-NAMES}

pub loop-k-init : goal.loop-k-init
loop-k-init g c =
    let a = c.args in
    (refl, λ h d p z. names_none h d a.e.now a.n (replicate 64 a.none) (λ m s. get_or-replicate 64 m a.none d s ∙ z m s))

pub loop-k-preserved : goal.loop-k-preserved
loop-k-preserved g c =
    let l = c.loop-k in
    let a = c.args in
    let x = get_or a.e.now l.k 0 in
    elim c.if-x-lt-NAMES.branch [
      | then-x-lt-NAMES w ↦ (
        ap length w.found-is ∙ length-set l.found _ _ ∙ l.invariant.0,
        λ h d p z.
            names_next h d a.e.now a.n l.k l.found _ c.loop-k-test.true l.invariant.0 (l.invariant.1 h d p z)
            (w.found-is ∙ ap (λ (y : _). set l.found x y) (p l.k w.f.result c.loop-k-test.true w.f.ensures)),
      )
      | else-x-lt-NAMES w ↦ (
        ap length w.found-is ∙ l.invariant.0,
        λ h d p z.
            names_next h d a.e.now a.n l.k l.found _ c.loop-k-test.true l.invariant.0 (l.invariant.1 h d p z) (w.found-is ∙ sym (set_out l.found _ _ (omega arith))),
      )
    ]

pub returns : goal.returns
returns g c = λ h d p z.
    let l = c.loop-k in
    let all : l.k ≡ c.args.n = omega arith in
    names_all h d c.args.e.now c.args.n c.requires.fits l.found (rw all at (l.invariant.1 h d p z))
