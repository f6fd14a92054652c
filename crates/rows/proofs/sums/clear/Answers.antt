-- `rows::sums::clear` meets its contract: the places from live on are 0 one after the other. Assumes nothing.
use native.Mathlib.Omega.{arith}
use Rattle.tables.proofs.Clearing.{clear-start, clear-more, clear-done}
use Rattle.rows.proofs.sums.clear.Goals as goal

pub loop-i-init : goal.loop-i-init
loop-i-init c = clear-start

pub loop-i-preserved : goal.loop-i-preserved
loop-i-preserved c = clear-more c.loop-i.invariant (omega arith)

pub returns : goal.returns
returns c = clear-done c.loop-i.invariant (omega arith)
