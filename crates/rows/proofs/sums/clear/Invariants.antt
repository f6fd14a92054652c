use Rattle.tables.proofs.Clearing.{Clearing}
use Rattle.rows.proofs.sums.clear.Given as goal

abbrev pub invariant-loop-i : goal.invariant-loop-i
invariant-loop-i l = Clearing l.live l.initial.c l.c l.i
