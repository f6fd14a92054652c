use mathlib.Core.Path.{◌≡◌}
use Prim.Native.Nat.{ℕ}
use lib.ListN.{take}
use Rattle.whole.specs.Sums.{dot_z}
use Rattle.whole.specs.Lanes.{col}
use Rattle.lanes.proofs.dot.g_dot.Given as goal

abbrev pub invariant-loop-i : goal.invariant-loop-i
invariant-loop-i g l = let lane = g.L.Lanes.lane in (k : ℕ) → lane l.acc k ≡ dot_z (take l.i l.mat) (col lane k l.v)
