use Prim.Native.Nat.{◌+◌, ◌*◌}
use lib.IntN.{pos}
use lib.ListN.{get_or}
use Rattle.passes.specs.Passes.{settled_to}
use Rattle.narrow.specs.Painted.{Painted}
use Rattle.fast.proofs.block_rows.turn.Given as goal

abbrev pub invariant-loop-l : goal.invariant-loop-l
invariant-loop-l l = Painted (pos 0) l.from 16 l.c l.l (λ j m. settled_to 15 l.shift (get_or l.out (l.p + j + m * 16) (pos 0))) l.initial.work l.work
