use Rattle.passes.proofs.Living.{FourDead}
use Rattle.passes.proofs.live.four_live.Given as goal

abbrev pub invariant-loop-x : goal.invariant-loop-x
invariant-loop-x l = FourDead l.coeff l.r l.size l.x
