use Rattle.passes.specs.Passes.{DeadLines}
use Rattle.passes.proofs.live.last_line.Given as goal

abbrev pub invariant-loop-x : goal.invariant-loop-x
invariant-loop-x l = DeadLines l.x l.top l.size l.coeff
