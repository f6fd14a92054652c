use Prim.Native.Nat.{ℕ, ◌^◌, ◌≤◌, ◌<◌}
use lib.IntN.{pos, nat_abs}
use lib.ListN.{get_or}
use Rattle.kernels_run.proofs.fill.Given as goal

abbrev pub invariant-loop-i : goal.invariant-loop-i
invariant-loop-i l = (k : ℕ) → k < l.i → nat_abs (get_or l.c k (pos 0)) ≤ 2 ^ 19
