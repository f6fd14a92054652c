-- `steps::differences` meets its contract: at turn k the first k differences are there. Assumes nothing.
use native.Mathlib.Omega.{arith}
use lib.Dec.{lit<}
use mir.Syntax.{w32}
use Rattle.whole.proofs.Fill.{fill_more, fill_done}
use Rattle.whole.proofs.Num.{read}
use Rattle.screen.proofs.Levels.{gap}
use Rattle.screen.proofs.steps.differences.Goals as goal

pub loop-k-preserved : goal.loop-k-preserved
loop-k-preserved c = fill_more c.loop-k.invariant (omega arith) (read (gap c.requires.2 c.loop-k.k (omega arith)) w32 (lit< tt)).is

pub returns : goal.returns
returns c = fill_done c.loop-k.invariant (omega arith)
