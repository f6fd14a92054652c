-- `wide_rows::rows::put` meets its contract: the loop fills the row. Assumes nothing.
use native.Mathlib.Omega.{arith}
use Rattle.whole.proofs.Fill.{fill_done}
use Rattle.wide_rows.proofs.rows.put.Goals as goal

pub returns : goal.returns
returns c = fill_done c.loop-l.invariant (omega arith)
