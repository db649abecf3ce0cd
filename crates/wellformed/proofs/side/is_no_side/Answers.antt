-- Test by test.
use Rattle.std.proofs.Common.{◌≡◌, List, ℕ, ◌*◌, length, rules}
use native.Mathlib.Omega.{arith}
use Rattle.model.specs.Basics.{◌&◌}
use Rattle.model.specs.Wrapper.{all_sides}
use Rattle.values.proofs.Lists.{unmap}
use Rattle.sides.specs.Views.{view_message}
use Rattle.sides.specs.Layout.{rows_of, view_place, view_row, view_box, boxes_of, shelf_of}
use Rattle.sides.specs.Sides.{side_of}
use Rattle.sides.proofs.Reading.{rows_count, boxes_count, shelf_count}
use Rattle.wellformed.proofs.TestLaws.{no_rows}
use Rattle.wellformed.proofs.SideLaws.{no_side_is}
use Rattle.wellformed.proofs.side.is_no_side.Goals as goal

pub returns-then-none_marked : goal.returns-then-none_marked
unfolding ◌&◌
returns-then-none_marked c =
    let o = c.args.o in
    let msgs : length o.lobby.msgs ≡ 16 = search unmap in
    let taken : length o.taken ≡ 32 * length all_sides = search rules in
    let tested =
    λ (words : List ℕ). no_side_is (side_of words o c.args.left.now) o.particles o.boxes o.lobby.len o.shelved
    (no_rows view_row (rows_of words) o.particles (omega (arith, rows_count words))) (no_rows view_box (boxes_of words) o.boxes (omega (arith, boxes_count words)))
    (no_rows view_message o.lobby.msgs o.lobby.len (omega (arith, msgs))) (no_rows view_place (shelf_of words) o.shelved (omega (arith, shelf_count words)))
    c.requires taken in
    λ words. search (rules, tested words)

pub returns-else-none_marked : goal.returns-else-none_marked
unfolding ◌&◌
returns-else-none_marked c =
    let o = c.args.o in
    let msgs : length o.lobby.msgs ≡ 16 = search unmap in
    let taken : length o.taken ≡ 32 * length all_sides = search rules in
    let tested =
    λ (words : List ℕ). no_side_is (side_of words o c.args.left.now) o.particles o.boxes o.lobby.len o.shelved
    (no_rows view_row (rows_of words) o.particles (omega (arith, rows_count words))) (no_rows view_box (boxes_of words) o.boxes (omega (arith, boxes_count words)))
    (no_rows view_message o.lobby.msgs o.lobby.len (omega (arith, msgs))) (no_rows view_place (shelf_of words) o.shelved (omega (arith, shelf_count words)))
    c.requires taken in
    λ words. search (rules, tested words)
