-- `av1::dct::gather` meets its contract: the loop fills the places with the numbers at the table's places. Assumes nothing.
use Rattle.std.proofs.Common.{rules}
use native.Mathlib.Omega.{arith}
use Rattle.whole.proofs.Fill.{fill_start, fill_more, fill_done}
use Rattle.av1.proofs.dct.gather.Goals as goal

pub loop-i-init : goal.loop-i-init
loop-i-init c = fill_start c.requires.0

pub loop-i-preserved : goal.loop-i-preserved
loop-i-preserved c = fill_more c.loop-i.invariant (omega arith) (search rules)

pub returns : goal.returns
returns c = fill_done c.loop-i.invariant (omega arith)
