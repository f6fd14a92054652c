use lib.IntN.{pos, ◌+ℤ◌}
use lib.ListN.{get_or}
use Rattle.whole.proofs.Fill.{InPlace}
use Rattle.folding_code.proofs.fold.plus.Given as goal

abbrev pub invariant-loop-k : goal.invariant-loop-k
invariant-loop-k l = InPlace (pos 0) l.initial.out (λ j. get_or l.initial.out j (pos 0) +ℤ get_or l.a j (pos 0)) l.out l.k
