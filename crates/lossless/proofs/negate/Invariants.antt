use lib.IntN.{pos, neg_ℤ}
use lib.ListN.{get_or}
use Rattle.whole.proofs.Fill.{InPlace}
use Rattle.lossless.proofs.negate.Given as goal

abbrev pub invariant-loop-z : goal.invariant-loop-z
invariant-loop-z l = InPlace (pos 0) l.initial.l (λ j. neg_ℤ (get_or l.initial.l j (pos 0))) l.l l.z-index
