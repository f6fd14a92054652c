use Prim.Native.Nat.{◌+◌, ◌*◌}
use lib.IntN.{pos}
use lib.ListN.{get_or}
use Rattle.whole.proofs.Lent.{Rewriting}
use Rattle.passes.specs.Passes.{entry}
use Rattle.fast.proofs.block_rows.load.Given as goal

abbrev pub invariant-loop-x : goal.invariant-loop-x
invariant-loop-x l = Rewriting (pos 0) 16 l.k (λ y j. entry l.scale 8 (get_or l.coeff (l.r * l.down + y * l.across + j * l.down) (pos 0))) l.initial.t l.t l.x
