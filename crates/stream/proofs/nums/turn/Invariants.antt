use Prim.Native.Nat.{ℕ, ◌<◌}
use lib.ListN.{get_or}
use Rattle.stream.proofs.nums.turn.Given as goal

abbrev pub invariant-loop-i : goal.invariant-loop-i
invariant-loop-i g l = (k : ℕ) (x : _) (y : _) → k < l.i → goal.F-post g l.f (get_or l.list k x) (get_or l.out k y)
