-- `text::line_end` meets its contract: the run of bytes that are no line feed. Assumes nothing.
use mathlib.Core.Bool.{not}
use lib.Dec.{eqb}
use Rattle.words.proofs.Runs.{seek-run}
use Rattle.words.proofs.text.line_end.Goals as goal

pub returns-clause-value : goal.returns-clause-value
returns-clause-value c = seek-run (λ b. not (eqb b 10)) c.args.text.now c.args.from c.line_len.result c.requires c.line_len.ensures.value
