use Rattle.embed.proofs.NumberLaws.{text_written, text_short}
use Rattle.embed.proofs.bench_text.Goals as goal

pub returns-in-Ok : goal.returns-in-Ok
returns-in-Ok c = text_written c.text.ensures _ c.in-Ok.is

pub returns-in-Err : goal.returns-in-Err
returns-in-Err c = text_short c.text.ensures _ c.in-Err.is
