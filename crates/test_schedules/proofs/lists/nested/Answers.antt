-- `test_schedules::lists::nested` meets its contract. The loop's invariant: the nodes that are left, stored from here on, make the whole.
use Rattle.std.proofs.Common.{◌≡◌, ℕ, ◌*◌, [], ◌∷◌, sym, refl, ap, ◌∙◌, rules}
use lib.Seq.{sets}
use Rattle.test_schedules.specs.Lists.{nested_node}
use Rattle.test_schedules.proofs.ListLaws.{next_node, last_node}
use Rattle.test_schedules.proofs.lists.nested.Goals as goal

pub loop-k-init : goal.loop-k-init
loop-k-init c = refl

pub loop-k-preserved : goal.loop-k-preserved
loop-k-preserved c =
    let x = c.args in
    let l = c.loop-k in
    let stored : c.node.new.nodes ≡ sets l.nodes (5 * l.k) (nested_node x.kind l.k) = c.node.ensures ∙ ap (λ (n : ℕ). sets l.nodes (5 * l.k) (x.kind ∷ 10 ∷ n ∷ 0 ∷ 0 ∷ [])) c.narrow.ensures in
    next_node (nested_node x.kind) l.nodes c.node.new.nodes l.k x.b refl (search rules) stored ∙ l.invariant

pub returns : goal.returns
returns c =
    let x = c.args in
    let l = c.loop-k in
    sym (last_node (nested_node x.kind) l.nodes l.k x.b (search rules)) ∙ l.invariant
