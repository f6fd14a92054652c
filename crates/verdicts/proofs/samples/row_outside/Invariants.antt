use mathlib.Core.Path.{◌≡◌}
use mathlib.Core.Bool.{true}
use mathlib.Core.List.{List}
use Prim.Native.Nat.{ℕ, ◌≤◌, ◌<◌}
use lib.IntN.{ℤ, pos}
use lib.ListN.{get_or}
use Rattle.whole.specs.Numbers.{in_range}
use Rattle.verdicts.proofs.samples.row_outside.Given as goal

abbrev pub Inside : ℤ → ℤ → List ℤ → ℕ → Type 0
Inside lo hi row n = (k : ℕ) → k < n → in_range lo hi (get_or row k (pos 0)) ≡ true

abbrev pub invariant-loop-z : goal.invariant-loop-z
invariant-loop-z l = (l.bad ≤ l.z-index) × (l.bad ≡ 0 → Inside l.lo l.hi l.row l.z-index)
