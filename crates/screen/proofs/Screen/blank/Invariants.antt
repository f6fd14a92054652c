use lib.IntN.{pos}
use lib.ListN.{length}
use Rattle.whole.proofs.Fill.{Filling}
use Rattle.screen.specs.Planes.{fresh_of}
use Rattle.screen.proofs.Screen.blank.Given as goal

abbrev pub invariant-loop-i : goal.invariant-loop-i
invariant-loop-i l = Filling (pos 0) (length l.initial.list) (fresh_of l.self.stride l.self.width l.z) l.list l.i
