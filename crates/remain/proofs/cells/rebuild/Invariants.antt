use Rattle.remain.specs.Remaining.{count}
use Rattle.remain.proofs.Covering.{Covered}
use Rattle.remain.proofs.cells.rebuild.Given as goal

abbrev pub invariant-loop-i : goal.invariant-loop-i
invariant-loop-i l = Covered l.s l.width l.rows (count l.s) l.index l.i
