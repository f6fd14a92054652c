use Prim.Native.Nat.{◌*◌}
use Rattle.passes.specs.Passes.{DeadFours}
use Rattle.passes.proofs.live.live_fours.Given as goal

abbrev pub invariant-loop-k : goal.invariant-loop-k
invariant-loop-k l = DeadFours (4 * l.k) l.lines l.size l.coeff
