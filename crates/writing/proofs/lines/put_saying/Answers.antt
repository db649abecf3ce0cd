-- `writing::lines::put_saying` meets its contract.
use mathlib.Core.Path.{◌≡◌}
use lib.ListN.{get_or}
use Rattle.writing.proofs.WrittenLaws.{joined, spelled}
use Rattle.writing.proofs.LineLaws.{says_silent, says_enters, says_leaves, says_logs, says_refused}
use borrow.Author.Rules.{rules}
use Rattle.writing.proofs.lines.put_saying.Goals as goal

pub returns-in-0-clause-written : goal.returns-in-0-clause-written
returns-in-0-clause-written c = spelled (says_silent c.args.words.now c.in-0.is) c.put.ensures

pub returns-in-1-clause-written : goal.returns-in-1-clause-written
returns-in-1-clause-written c = spelled (says_enters c.args.words.now c.in-1.is) c.put_label.ensures.written

pub returns-in-2-clause-written : goal.returns-in-2-clause-written
returns-in-2-clause-written c = spelled (says_leaves c.args.words.now c.in-2.is) c.put_label-in-2.ensures.written

pub returns-in-4-clause-written : goal.returns-in-4-clause-written
returns-in-4-clause-written c = spelled (says_logs c.args.words.now c.in-4.is) c.put_label-in-4.ensures.written

pub returns-in_default-clause-written : goal.returns-in_default-clause-written
returns-in_default-clause-written c =
    let said = get_or c.args.words.now 0 0 in
    let silent : said ≡ 0 → ⊥ = search (rules, c.in_default) in
    let enters : said ≡ 1 → ⊥ = search (rules, c.in_default) in
    let leaves : said ≡ 2 → ⊥ = search (rules, c.in_default) in
    let logs : said ≡ 4 → ⊥ = search (rules, c.in_default) in
    spelled (says_refused c.args.words.now _ silent enters leaves logs c.from.ensures) (joined c.put-p.ensures c.put_field.ensures.written)
