use mathlib.Core.Path.{◌≡◌}
use Prim.Native.Nat.{ℕ, ◌+◌}
use Rattle.whole.specs.Sums.{dot_z, term_row}
use Rattle.whole.specs.Lanes.{col}
use Rattle.whole.specs.Parts.{place_at}
use Rattle.lanes.specs.Halves.{weight}
use Rattle.lanes.proofs.dct.odd.Given as goal

abbrev pub invariant-loop-i : goal.invariant-loop-i
invariant-loop-i g l = let at = g.L.Lanes.lane in (k : ℕ) → at l.acc k ≡ dot_z (term_row (weight l.h l.t l.m) (place_at l.start (l.start + l.start)) l.i) (col at k l.c)
