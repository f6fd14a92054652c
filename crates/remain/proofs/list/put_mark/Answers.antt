-- `remain::list::put_mark` meets its contract: four stores. Assumes nothing.
use native.Mathlib.Omega.{arith}
use lib.ListN.{length-set}
use Rattle.remain.proofs.list.put_mark.Goals as goal

pub bounds-s-b-2 : goal.bounds-s-b-2
bounds-s-b-2 c = simp length-set (omega arith)

pub bounds-s-b-3 : goal.bounds-s-b-3
bounds-s-b-3 c = simp length-set (omega arith)

pub bounds-s-b-4 : goal.bounds-s-b-4
bounds-s-b-4 c = simp length-set (omega arith)
