use Rattle.folding.proofs.Writes.{Putting}
use Rattle.folding_code.proofs.fold.put_back.Given as goal

abbrev pub invariant-loop-h : goal.invariant-loop-h
invariant-loop-h l = Putting l.initial.s l.initial.l l.o l.n l.s l.l l.m l.h
