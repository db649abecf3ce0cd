-- Test by test.
use Rattle.std.proofs.Common.{◌≡◌, ◌∙◌, sym, length, leb, rules}
use Rattle.model.specs.Basics.{◌&◌, every}
use Rattle.model.proofs.Basics.Tests.{fst, snd}
use Rattle.model.specs.WellFormed.{wf_contents, wf_message}
use Rattle.values.proofs.Lists.{unmap}
use Rattle.tables.specs.Nodes.{table}
use Rattle.wrappers.specs.Copies.{log_if}
use Rattle.wrappers.proofs.Described.{copies_are}
use Rattle.sides.specs.Sides.{core_of}
use Rattle.wellformed.specs.Clauses.{setting_of, shelf_allowed}
use Rattle.sides.proofs.Lists.{stops, goes_on}
use Rattle.wellformed.proofs.SideLaws.{within_arrays, core_is}
use Rattle.wellformed.proofs.side.core_ok.Goals as goal
use Rattle.wellformed.proofs.side.core_ok.Goals.{then-minted_within, else-minted_within, then-contents_ok, else-contents_ok}

pub contents_ok-requires : goal.contents_ok-requires
contents_ok-requires c =
    let f = c.requires.2 in
    (c.requires.0, c.requires.1, fst _ _ f, fst _ _ (snd _ _ f))

pub lobby_ok-requires : goal.lobby_ok-requires
lobby_ok-requires c = fst _ _ (snd _ _ (snd _ _ c.requires.2))

pub shelf_ok-requires : goal.shelf_ok-requires
shelf_ok-requires c = (c.requires.1, snd _ _ (snd _ _ (snd _ _ c.requires.2)))

pub returns-then-lobby_ok : goal.returns-then-lobby_ok
unfolding ◌&◌
returns-then-lobby_ok c =
    let a = c.args in
    let t = table a.nodes.now a.pool.now in
    let k = a.counts.now in
    let s = core_of a.words.now a.o in
    let copies = log_if c.has_log-logging.result in
    let full : length a.o.lobby.msgs ≡ 16 = search unmap in
    let contents : c.if-minted_within.value ≡ leb a.o.minted 256 & wf_contents t k s.contents =
    elim c.if-minted_within.branch [
      | then-minted_within w ↦ let e = w.contents_ok.ensures a.o.minted in search (rules, e)
      | else-minted_within w ↦ search rules
    ] in
    let lobby : c.if-contents_ok.value ≡ (leb a.o.minted 256 & wf_contents t k s.contents) & every (wf_message c.has_shelf-shelved.result copies k) s.lobby =
    elim c.if-contents_ok.branch [ then-contents_ok w ↦ search (rules, contents) | else-contents_ok w ↦ search (rules, contents) ] in
    goes_on _ _ _ (sym lobby ∙ c.if-lobby_ok.true) c.shelf_ok.ensures ∙
    core_is (setting_of a.wrapper a.side t) k s _ copies c.has_shelf-shelved.ensures (copies_are a.wrapper _ c.has_log-logging.ensures) (within_arrays a.words.now a.o full)

pub returns-else-lobby_ok : goal.returns-else-lobby_ok
unfolding ◌&◌
returns-else-lobby_ok c =
    let a = c.args in
    let t = table a.nodes.now a.pool.now in
    let k = a.counts.now in
    let s = core_of a.words.now a.o in
    let copies = log_if c.has_log-logging.result in
    let full : length a.o.lobby.msgs ≡ 16 = search unmap in
    let contents : c.if-minted_within.value ≡ leb a.o.minted 256 & wf_contents t k s.contents =
    elim c.if-minted_within.branch [
      | then-minted_within w ↦ let e = w.contents_ok.ensures a.o.minted in search (rules, e)
      | else-minted_within w ↦ search rules
    ] in
    let lobby : c.if-contents_ok.value ≡ (leb a.o.minted 256 & wf_contents t k s.contents) & every (wf_message c.has_shelf-shelved.result copies k) s.lobby =
    elim c.if-contents_ok.branch [ then-contents_ok w ↦ search (rules, contents) | else-contents_ok w ↦ search (rules, contents) ] in
    c.if-lobby_ok.false ∙ stops _ (shelf_allowed c.has_shelf-shelved.result k s.shelf) (sym lobby ∙ c.if-lobby_ok.false) ∙
    core_is (setting_of a.wrapper a.side t) k s _ copies c.has_shelf-shelved.ensures (copies_are a.wrapper _ c.has_log-logging.ensures) (within_arrays a.words.now a.o full)
