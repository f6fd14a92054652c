use Rattle.screen.proofs.Planes.{Agreed}
use Rattle.screen.proofs.plane.first_difference.Given as goal

abbrev pub invariant-loop-i : goal.invariant-loop-i
invariant-loop-i l = Agreed l.i l.a l.b
