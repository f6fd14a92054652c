use mathlib.Core.Path.{◌≡◌}
use Prim.Native.Nat.{◌≤◌}
use lib.IntN.{pos}
use lib.ListN.{length}
use Rattle.whole.specs.Grid.{grid_of}
use Rattle.whole.proofs.Fill.{Filled}
use Rattle.passes.proofs.scalar.take_col.Given as goal

abbrev pub invariant-loop-r : goal.invariant-loop-r
invariant-loop-r l = (l.r ≤ l.live) × (length l.buf ≡ length l.initial.buf) × Filled (pos 0) l.r (λ k. grid_of l.sw l.work k l.x) l.buf
