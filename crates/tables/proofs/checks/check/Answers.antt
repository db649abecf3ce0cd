-- The checks in their order: each is asked once those before it are passed.
use Rattle.std.proofs.Common.{rules, ◌≡◌, sym, ◌∙◌, Err, length, ◌/◌, get_or}
use native.Mathlib.Omega.{arith}
use Rattle.model.specs.Checks.{check2, check3, check4, check5}
use Rattle.tables.proofs.CheckLaws.{fail2, fail3, fail4, fail5, last6, few, pass1, pass2, pass3, pass4, pass5, size_bad, walks_root}
use Rattle.tables.proofs.FieldLaws.{kind_is, tree_is, names_are, places_are}
use Rattle.tables.proofs.ScopeLaws.{scope_all}
use Rattle.tables.specs.Fields.{kind_ok, tree_ok, name_ok, place_ok, four_fields}
use Rattle.tables.specs.Nodes.{table}
use Rattle.tables.proofs.checks.check.Goals as goal

pub returns-then-not-sizes_ok : goal.returns-then-not-sizes_ok
returns-then-not-sizes_ok c = size_bad (table c.args.nodes.now c.args.pool.now) (sym c.sizes_ok.ensures ∙ c.if-not-sizes_ok.true)

pub returns-in_err-fault_at : goal.returns-in_err-fault_at
returns-in_err-fault_at c =
    let ns = c.args.nodes.now in
    let pool = c.args.pool.now in
    let t = table ns pool in
    let p1 = pass1 t (sym c.sizes_ok.ensures ∙ c.if-not-sizes_ok.false) in
    let z2 = c.lowest_bad.ensures (check2 t) (λ n x b h i e. let q : b ≡ kind_ok x = search rules in q ∙ kind_is ns pool n x i) in
    let r : c.from_residual.result ≡ Err c.in_err-fault_at.field-0.0 = search rules in
    rw r (fail2 t _ _ p1 z2 (sym c.fault_at.ensures ∙ c.in_err-fault_at.was))

pub lowest_bad-requires-2 : goal.lowest_bad-requires-2
lowest_bad-requires-2 c =
    let f = few _ (sym c.sizes_ok.ensures ∙ c.if-not-sizes_ok.false) in
    λ n x h κs p q r s t. omega arith

pub returns-in_err-fault_at-2 : goal.returns-in_err-fault_at-2
returns-in_err-fault_at-2 c =
    let ns = c.args.nodes.now in
    let pool = c.args.pool.now in
    let t = table ns pool in
    let p1 = pass1 t (sym c.sizes_ok.ensures ∙ c.if-not-sizes_ok.false) in
    let f = few t p1.size in
    let z2 = c.lowest_bad.ensures (check2 t) (λ n x b h i e. let q : b ≡ kind_ok x = search rules in q ∙ kind_is ns pool n x i) in
    let p2 = pass2 t _ _ p1 z2 (sym c.fault_at.ensures ∙ c.in_ok-fault_at.was) in
    let z3 = c.lowest_bad-2.ensures (check3 t) (λ n x b h i e.
    let q : b ≡ tree_ok n (length ns / 5) (get_or c.times_child-times.result n 0) x = search rules in
    q ∙ tree_is ns pool n _ x i (c.times_child-times.ensures pool n (omega arith))) in
    let r : c.from_residual-in_err-fault_at-2.result ≡ Err c.in_err-fault_at-2.field-0.0 = search rules in
    rw r (fail3 t _ _ p2 z3 (sym c.fault_at-2.ensures ∙ c.in_err-fault_at-2.was))

pub returns-in_err-fault_at-3 : goal.returns-in_err-fault_at-3
returns-in_err-fault_at-3 c =
    let ns = c.args.nodes.now in
    let pool = c.args.pool.now in
    let t = table ns pool in
    let p1 = pass1 t (sym c.sizes_ok.ensures ∙ c.if-not-sizes_ok.false) in
    let f = few t p1.size in
    let z2 = c.lowest_bad.ensures (check2 t) (λ n x b h i e. let q : b ≡ kind_ok x = search rules in q ∙ kind_is ns pool n x i) in
    let p2 = pass2 t _ _ p1 z2 (sym c.fault_at.ensures ∙ c.in_ok-fault_at.was) in
    let z3 = c.lowest_bad-2.ensures (check3 t) (λ n x b h i e.
    let q : b ≡ tree_ok n (length ns / 5) (get_or c.times_child-times.result n 0) x = search rules in
    q ∙ tree_is ns pool n _ x i (c.times_child-times.ensures pool n (omega arith))) in
    let p3 = pass3 t _ _ p2 z3 (sym c.fault_at-2.ensures ∙ c.in_ok-fault_at-2.was) in
    let z4 = c.lowest_bad-3.ensures (check4 t) (λ n x b h i e. let q : b ≡ four_fields name_ok x = search rules in q ∙ names_are ns pool n x i) in
    let r : c.from_residual-in_err-fault_at-3.result ≡ Err c.in_err-fault_at-3.field-0.0 = search rules in
    rw r (fail4 t _ _ p3 z4 (sym c.fault_at-3.ensures ∙ c.in_err-fault_at-3.was))

pub returns-in_err-fault_at-4 : goal.returns-in_err-fault_at-4
returns-in_err-fault_at-4 c =
    let ns = c.args.nodes.now in
    let pool = c.args.pool.now in
    let t = table ns pool in
    let p1 = pass1 t (sym c.sizes_ok.ensures ∙ c.if-not-sizes_ok.false) in
    let f = few t p1.size in
    let z2 = c.lowest_bad.ensures (check2 t) (λ n x b h i e. let q : b ≡ kind_ok x = search rules in q ∙ kind_is ns pool n x i) in
    let p2 = pass2 t _ _ p1 z2 (sym c.fault_at.ensures ∙ c.in_ok-fault_at.was) in
    let z3 = c.lowest_bad-2.ensures (check3 t) (λ n x b h i e.
    let q : b ≡ tree_ok n (length ns / 5) (get_or c.times_child-times.result n 0) x = search rules in
    q ∙ tree_is ns pool n _ x i (c.times_child-times.ensures pool n (omega arith))) in
    let p3 = pass3 t _ _ p2 z3 (sym c.fault_at-2.ensures ∙ c.in_ok-fault_at-2.was) in
    let z4 = c.lowest_bad-3.ensures (check4 t) (λ n x b h i e. let q : b ≡ four_fields name_ok x = search rules in q ∙ names_are ns pool n x i) in
    let p4 = pass4 t _ _ p3 z4 (sym c.fault_at-3.ensures ∙ c.in_ok-fault_at-3.was) in
    let z5 = c.lowest_bad-4.ensures (check5 t) (λ n x b h i e. let q : b ≡ four_fields (place_ok pool) x = search rules in q ∙ places_are ns pool n x i) in
    let r : c.from_residual-in_err-fault_at-4.result ≡ Err c.in_err-fault_at-4.field-0.0 = search rules in
    rw r (fail5 t _ _ p4 z5 (sym c.fault_at-4.ensures ∙ c.in_err-fault_at-4.was))

pub lowest_over-requires : goal.lowest_over-requires
lowest_over-requires c =
    let ns = c.args.nodes.now in
    let pool = c.args.pool.now in
    let t = table ns pool in
    let p1 = pass1 t (sym c.sizes_ok.ensures ∙ c.if-not-sizes_ok.false) in
    let f = few t p1.size in
    let z2 = c.lowest_bad.ensures (check2 t) (λ n x b h i e. let q : b ≡ kind_ok x = search rules in q ∙ kind_is ns pool n x i) in
    let p2 = pass2 t _ _ p1 z2 (sym c.fault_at.ensures ∙ c.in_ok-fault_at.was) in
    let z3 = c.lowest_bad-2.ensures (check3 t) (λ n x b h i e.
    let q : b ≡ tree_ok n (length ns / 5) (get_or c.times_child-times.result n 0) x = search rules in
    q ∙ tree_is ns pool n _ x i (c.times_child-times.ensures pool n (omega arith))) in
    let p3 = pass3 t _ _ p2 z3 (sym c.fault_at-2.ensures ∙ c.in_ok-fault_at-2.was) in
    let z4 = c.lowest_bad-3.ensures (check4 t) (λ n x b h i e. let q : b ≡ four_fields name_ok x = search rules in q ∙ names_are ns pool n x i) in
    let p4 = pass4 t _ _ p3 z4 (sym c.fault_at-3.ensures ∙ c.in_ok-fault_at-3.was) in
    let z5 = c.lowest_bad-4.ensures (check5 t) (λ n x b h i e. let q : b ≡ four_fields (place_ok pool) x = search rules in q ∙ places_are ns pool n x i) in
    let p5 = pass5 t _ _ p4 z5 (sym c.fault_at-4.ensures ∙ c.in_ok-fault_at-4.was) in
    (walks_root t p5, omega arith, f)

pub returns : goal.returns
returns c =
    let ns = c.args.nodes.now in
    let pool = c.args.pool.now in
    let t = table ns pool in
    let p1 = pass1 t (sym c.sizes_ok.ensures ∙ c.if-not-sizes_ok.false) in
    let f = few t p1.size in
    let z2 = c.lowest_bad.ensures (check2 t) (λ n x b h i e. let q : b ≡ kind_ok x = search rules in q ∙ kind_is ns pool n x i) in
    let p2 = pass2 t _ _ p1 z2 (sym c.fault_at.ensures ∙ c.in_ok-fault_at.was) in
    let z3 = c.lowest_bad-2.ensures (check3 t) (λ n x b h i e.
    let q : b ≡ tree_ok n (length ns / 5) (get_or c.times_child-times.result n 0) x = search rules in
    q ∙ tree_is ns pool n _ x i (c.times_child-times.ensures pool n (omega arith))) in
    let p3 = pass3 t _ _ p2 z3 (sym c.fault_at-2.ensures ∙ c.in_ok-fault_at-2.was) in
    let z4 = c.lowest_bad-3.ensures (check4 t) (λ n x b h i e. let q : b ≡ four_fields name_ok x = search rules in q ∙ names_are ns pool n x i) in
    let p4 = pass4 t _ _ p3 z4 (sym c.fault_at-3.ensures ∙ c.in_ok-fault_at-3.was) in
    let z5 = c.lowest_bad-4.ensures (check5 t) (λ n x b h i e. let q : b ≡ four_fields (place_ok pool) x = search rules in q ∙ places_are ns pool n x i) in
    let p5 = pass5 t _ _ p4 z5 (sym c.fault_at-4.ensures ∙ c.in_ok-fault_at-4.was) in
    last6 t _ _ p5 (scope_all t _ c.lowest_over.ensures) c.fault_at-5.ensures
