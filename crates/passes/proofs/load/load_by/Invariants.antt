use Prim.Native.Nat.{◌+◌, ◌*◌}
use lib.IntN.{pos}
use lib.ListN.{get_or}
use Rattle.whole.specs.Numbers.{clamp}
use Rattle.whole.proofs.Lent.{Rewriting}
use Rattle.passes.specs.Passes.{scaling}
use Rattle.passes.proofs.load.load_by.Given as goal

abbrev pub invariant-loop-r : goal.invariant-loop-r
invariant-loop-r l = Rewriting (pos 0) l.sw l.cols (λ k x. clamp l.lo l.hi (scaling l.scale (get_or l.coeff (k * l.down + x * l.across) (pos 0)))) l.initial.work l.work l.r
