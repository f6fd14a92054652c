use mathlib.Core.Path.{◌≡◌}
use Prim.Native.Nat.{ℕ}
use lib.IntN.{pos}
use lib.ListN.{get_or}
use Rattle.whole.specs.Sums.{tab}
use Rattle.whole.specs.Lanes.{walk}
use Rattle.groups.proofs.lane_at.Given as goal

abbrev pub invariant-loop-k : goal.invariant-loop-k
invariant-loop-k g l = (j : ℕ) → g.L.Lanes.lane l.r j ≡ get_or (tab l.k (λ i. get_or l.work (walk l.q l.s i) (pos 0))) j (pos 0)
