-- `lanes::by_length::table16` meets its contract: the code is known in each arm. Assumes nothing.
use native.Mathlib.Omega.{arith}
use Rattle.lanes.proofs.Picks.{table16-last}
use Rattle.lanes.proofs.by_length.table16.Goals as goal

pub returns-in_default : goal.returns-in_default
returns-in_default c = table16-last c.args.code c.requires.0 c.requires.1 (omega arith) (omega arith)
