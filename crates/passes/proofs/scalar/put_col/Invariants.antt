use Rattle.whole.proofs.Grid.{Putting}
use Rattle.passes.proofs.scalar.put_col.Given as goal

abbrev pub invariant-loop-r : goal.invariant-loop-r
invariant-loop-r l = Putting l.sw l.sh l.x l.buf l.initial.work l.work l.r
