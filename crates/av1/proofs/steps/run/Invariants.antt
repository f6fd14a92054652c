use Prim.Native.Nat.{◌/◌}
use lib.ListN.{length}
use Rattle.av1.specs.Steps.{goes}
use Rattle.av1.proofs.Going.{Going}
use Rattle.av1.proofs.steps.run.Given as goal

abbrev pub invariant-loop-a : goal.invariant-loop-a
invariant-loop-a l =
    Going l.ends.lo l.ends.hi l.cos l.ops (length l.initial.w) (length l.ops / 3) (goes l.ends.lo l.ends.hi l.cos l.ops 0 (length l.ops / 3) l.first l.initial.w) l.w l.p l.a-index
