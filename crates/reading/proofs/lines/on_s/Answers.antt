-- A line that does not fit is at fault; else the step's words are stored behind the others.
use mathlib.Core.Path.{◌≡◌, ap, ◌∙◌}
use mathlib.Core.List.{List}
use Prim.Native.Nat.{ℕ, ◌+◌, ◌-◌}
use lib.ListN.{length, take, drop, set}
use lib.Seq.{sets}
use Rattle.reading.proofs.StepLaws.{fits_no_rank, fits_rank, fits_short, fits_full, fits_all, s_fault, s_taken}
use borrow.Author.Rules.{rules}
use Rattle.reading.proofs.lines.on_s.Goals as goal
use Rattle.reading.proofs.lines.on_s.Goals.{then-p-eq0-via-then-p-eq0, then-p-eq0-via-else-p-eq0+then-p-gt4, then-p-eq0-via-else-p-eq0+else-p-gt4+then-l-lt4, then-p-eq0-via-else-p-eq0+else-p-gt4+else-l-lt4+then-p-ge1024}

pub returns-then-p-eq0 : goal.returns-then-p-eq0
returns-then-p-eq0 c =
    let a = c.args in
    let w : length a.l.now.words ≡ 21 = search (rules, c.well_formed) in
    λ x y i old e h. s_fault i a.p old _ e h a.l.now.len a.l.now.words w c.requires.1 (elim c.then-p-eq0.branch [
      | then-p-eq0-via-then-p-eq0 z ↦ fits_no_rank _ _ _ z.if-p-eq0.true
      | then-p-eq0-via-else-p-eq0+then-p-gt4 z ↦ fits_rank _ _ _ z.if-p-gt4.true
      | then-p-eq0-via-else-p-eq0+else-p-gt4+then-l-lt4 z ↦ fits_short _ _ _ z.if-l-lt4.true
      | then-p-eq0-via-else-p-eq0+else-p-gt4+else-l-lt4+then-p-ge1024 z ↦ fits_full _ _ _ z.if-p-ge1024.true
    ])

pub returns : goal.returns
returns c =
    let a = c.args in
    let w : length a.l.now.words ≡ 21 = search (rules, c.well_formed) in
    let fits = fits_all a.l.now.len a.p.rank a.p.steps c.if-p-eq0.false c.if-p-gt4.false c.if-l-lt4.false c.requires.1 c.if-p-ge1024.false in
    λ x y i old q h. s_taken i a.p old _ q h a.l.now.len a.l.now.words w c.requires.1 _ fits
    (c.store-2.ensures ∙ ap (λ (z : List ℕ). sets (set z (a.p.words + 4) (a.l.now.len - 4)) (a.p.words + 5) (take (a.l.now.len - 4) (drop 4 a.l.now.words))) c.store.ensures)
