use mathlib.Core.Path.{◌≡◌}
use mathlib.Core.Bool.{true}
use mathlib.Core.List.{List}
use Prim.Native.Nat.{ℕ, ◌+◌, ◌*◌, ◌<◌}
use lib.IntN.{ℤ, pos}
use lib.ListN.{get_or}
use Rattle.whole.specs.Numbers.{in_range}
use Rattle.verdicts.proofs.samples.first_sample.Given as goal

-- the first n rows are in range
abbrev pub Rows : ℤ → ℤ → List ℤ → ℕ → ℕ → ℕ → Type 0
Rows lo hi p stride w n = (q x : ℕ) → q < n → x < w → in_range lo hi (get_or p (q * stride + x) (pos 0)) ≡ true

abbrev pub invariant-loop-r : goal.invariant-loop-r
invariant-loop-r l = Rows l.lo l.hi l.p l.stride l.w l.r
