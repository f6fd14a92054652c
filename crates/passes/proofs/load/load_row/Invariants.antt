use Prim.Native.Nat.{◌+◌, ◌*◌}
use lib.IntN.{pos}
use lib.ListN.{length, get_or}
use Rattle.whole.specs.Numbers.{clamp}
use Rattle.whole.proofs.Fill.{Filling}
use Rattle.passes.specs.Passes.{scaling}
use Rattle.passes.proofs.load.load_row.Given as goal

abbrev pub invariant-loop-x : goal.invariant-loop-x
invariant-loop-x l = Filling (pos 0) (length l.initial.row) (λ k. clamp l.lo l.hi (scaling l.scale (get_or l.coeff (l.r * l.down + k * l.across) (pos 0)))) l.row l.x
