use mathlib.Core.Path.{◌≡◌}
use Rattle.folding.specs.Owners.{owner, sum_of}
use Rattle.folding_code.proofs.fold.gather.Given as goal

abbrev pub invariant-loop-j : goal.invariant-loop-j
invariant-loop-j l = l.out ≡ sum_of (owner l.o) l.l l.j l.h
