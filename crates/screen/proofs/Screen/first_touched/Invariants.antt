use Rattle.screen.specs.Planes.{marked}
use Rattle.screen.proofs.Planes.{Agreed}
use Rattle.screen.proofs.Screen.first_touched.Given as goal

abbrev pub invariant-loop-i : goal.invariant-loop-i
invariant-loop-i l = Agreed l.i l.list (marked l.self.stride l.self.width l.list)
