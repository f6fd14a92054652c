use mathlib.Core.Path.{◌≡◌}
use mathlib.Core.Bool.{Bool}
use Prim.Native.Nat.{ℕ, ◌-◌, ◌+◌, ◌*◌}
use Rattle.std.specs.Prelude.{None}
use Rattle.whole.specs.Search.{seek}
use Rattle.ranges.specs.Cells.{cell_ok}
use Rattle.ranges.proofs.find_outside.Given as goal

-- the search of n cells that has come to cell k
abbrev pub Left : (ℕ → Bool) → ℕ → ℕ → Type 0
Left ok n k = seek ok 0 n ≡ seek ok k (n - k)

abbrev pub invariant-rows : goal.invariant-rows
invariant-rows l = (l.found ≡ None) × Left (cell_ok l.lo l.hi l.p l.start l.stride l.w) (l.h * l.w) (l.r * l.w)

abbrev pub invariant-loop-x : goal.invariant-loop-x
invariant-loop-x l = (l.found ≡ None) × Left (cell_ok l.lo l.hi l.p l.start l.stride l.w) (l.h * l.w) (l.r * l.w + l.x)
