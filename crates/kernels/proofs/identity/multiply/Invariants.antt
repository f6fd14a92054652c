use lib.IntN.{pos, ◌*ℤ◌}
use lib.ListN.{get_or}
use Rattle.whole.proofs.Fill.{InPlace}
use Rattle.kernels.proofs.identity.multiply.Given as goal

abbrev pub invariant-loop-x : goal.invariant-loop-x
invariant-loop-x l = InPlace (pos 0) l.initial.c (λ j. get_or l.initial.c j (pos 0) *ℤ l.factor) l.c l.x-index
