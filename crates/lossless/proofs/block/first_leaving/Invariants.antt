use mathlib.Core.Path.{◌≡◌}
use mathlib.Core.Bool.{Bool}
use Prim.Native.Nat.{ℕ, ◌-◌, ◌+◌, ◌*◌}
use lib.IntN.{pos}
use Rattle.std.specs.Prelude.{None}
use Rattle.whole.specs.Sums.{item}
use Rattle.whole.specs.Numbers.{in_range}
use Rattle.whole.specs.Search.{seek, cell_at}
use Rattle.lossless.specs.Gains.{later_ok}
use Rattle.lossless.proofs.block.first_leaving.Given as goal

-- the search of sixteen cells that has come to cell k
abbrev pub Left : (ℕ → Bool) → ℕ → Type 0
Left ok k = seek ok 0 16 ≡ seek ok k (16 - k)

abbrev pub invariant-loop-x : goal.invariant-loop-x
invariant-loop-x l = (l.found ≡ None) × Left (later_ok (in_range (pos 0) l.hi) (cell_at l.start l.stride 4) l.plane (item l.gains)) (l.r * 4 + l.x)

abbrev pub invariant-rows : goal.invariant-rows
invariant-rows l = (l.found ≡ None) × Left (later_ok (in_range (pos 0) l.hi) (cell_at l.start l.stride 4) l.plane (item l.gains)) (l.r * 4)
