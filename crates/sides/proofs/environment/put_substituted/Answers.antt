use mathlib.Core.Path.{refl, ◌∙◌}
use mathlib.Core.List.{[], ◌∷◌}
use lib.ListN.{get_or}
use Rattle.model.specs.Values.{value}
use Rattle.sides.specs.Environments.{env_of}
use Rattle.sides.proofs.Substituting.{stands_name, stands_word, subst_fits, subst_turn, subst_done}
use borrow.Author.Rules.{rules}
use native.Mathlib.Omega.{arith}
use Rattle.sides.proofs.environment.put_substituted.Goals as goal
use Rattle.sides.proofs.environment.put_substituted.Goals.{then-w-le63, else-w-le63}

pub loop-w-init : goal.loop-w-init
loop-w-init c = (search rules, search rules, refl, refl)

pub append_value-m-requires : goal.append_value-m-requires
append_value-m-requires c =
    let ρ = env_of c.args.e.now c.args.n in
    let s = c.args.s.now in
    let l = c.loop-w in
    let w = get_or s l.w-index 0 in
    let n = stands_name ρ w c.if-w-le63.true in
    (l.invariant.0, c.requires.1, c.requires.2, c.requires.3, subst_fits ρ s l.w-index l.m (value ρ w) c.loop-w-test.true n l.invariant.2 c.requires.4)

pub loop-w-preserved : goal.loop-w-preserved
loop-w-preserved c =
    let ρ = env_of c.args.e.now c.args.n in
    let s = c.args.s.now in
    let l = c.loop-w in
    let w = get_or s l.w-index 0 in
    let h = c.loop-w-test.true in
    let j = c.if-w-le63 in
    elim j.branch [
      | then-w-le63 b ↦
          let n = stands_name ρ w b.if-w-le63.true in
          let a = b.append_value-m in
          let f = subst_fits ρ s l.w-index l.m (value ρ w) h n l.invariant.2 c.requires.4 in
          let r = b.m-is ∙ a.ensures.0 in
          let t = subst_turn ρ s l.w-index l.m (value ρ w) h n l.invariant.2 c.args.v.now l.v j.v j.m l.invariant.3 r (b.v-is ∙ a.ensures.1) in
          (omega (arith, l.invariant.0), omega (arith, r), t.0, t.1)
      | else-w-le63 b ↦
          let n = stands_word ρ w b.if-w-le63.false in
          let f = subst_fits ρ s l.w-index l.m (w ∷ []) h n l.invariant.2 c.requires.4 in
          let t = subst_turn ρ s l.w-index l.m (w ∷ []) h n l.invariant.2 c.args.v.now l.v j.v j.m l.invariant.3 b.m-is b.v-is in
          (omega (arith, l.invariant.0), omega (arith, b.m-is), t.0, t.1)
    ]

pub bounds-v-m : goal.bounds-v-m
bounds-v-m c =
    let ρ = env_of c.args.e.now c.args.n in
    let s = c.args.s.now in
    let l = c.loop-w in
    let w = get_or s l.w-index 0 in
    let n = stands_word ρ w c.if-w-le63.false in
    omega (arith, l.invariant.0, subst_fits ρ s l.w-index l.m (w ∷ []) c.loop-w-test.true n l.invariant.2 c.requires.4)

pub returns : goal.returns
returns c =
    let l = c.loop-w in
    subst_done (env_of c.args.e.now c.args.n) c.args.s.now l.w-index l.m c.args.v.now l.v c.loop-w-test.false l.invariant.2 l.invariant.3
