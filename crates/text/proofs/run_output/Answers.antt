-- What a run comes to, as the output for the lines.
use mathlib.Core.Path.{ap, ◌∙◌}
use mathlib.Core.Logic.{inl, inr}
use Prim.Native.Nat.{ℕ}
use lib.ListN.{length-replicate}
use Rattle.std.specs.Prelude.{Err}
use Rattle.running.specs.declared.RunError.{RunError}
use Rattle.format.specs.Output.{output_for}
use Rattle.text.proofs.TextLaws.{run_given, output_done, output_unloaded, output_always, page_of}
use Rattle.text.proofs.run_output.Goals as goal

pub returns-in-Ok : goal.returns-in-Ok
returns-in-Ok c i g =
    let x = c.run.ensures in
    let room = run_given g _ (length-replicate {A = ℕ} 20480 0) in
    page_of (output_for i) c.answered.ensures (output_done i _ _ _ room _ _ x c.in-Ok.is g.few)

pub returns-in-Err-Refused : goal.returns-in-Err-Refused
returns-in-Err-Refused c i g =
    let x = c.run.ensures in
    let room = run_given g _ (length-replicate {A = ℕ} 20480 0) in
    let h = c.in-Err-Refused in
    page_of (output_for i) c.refused.ensures (rw (c.number.ensures, h.f-is) (output_unloaded i _ _ _ room h.f _ x (h.is ∙ ap (λ (y : RunError). Err y) h.field-0-is)))

pub returns-in-Err-BrokenOff : goal.returns-in-Err-BrokenOff
returns-in-Err-BrokenOff c i g =
    let room = run_given g _ (length-replicate {A = ℕ} 20480 0) in
    let h = c.in-Err-BrokenOff in
    page_of (output_for i) c.fault.ensures (output_always i _ _ _ room _ _ c.run.ensures (inl (h.is ∙ ap (λ (y : RunError). Err y) h.field-0-is)))

pub returns-in-Err-TooShort : goal.returns-in-Err-TooShort
returns-in-Err-TooShort c i g =
    let room = run_given g _ (length-replicate {A = ℕ} 20480 0) in
    let h = c.in-Err-TooShort in
    page_of (output_for i) c.fault-in-Err-TooShort.ensures (output_always i _ _ _ room _ _ c.run.ensures (inr (h.is ∙ ap (λ (y : RunError). Err y) h.field-0-is)))
