use mathlib.Core.Path.{◌≡◌}
use mathlib.Core.List.{List}
use Prim.Native.Nat.{ℕ, ◌≤◌, ◌<◌}
use lib.IntN.{ℤ, pos}
use lib.ListN.{get_or}
use Rattle.passes.proofs.live.some.Given as goal

abbrev pub Dead : List ℤ → ℕ → Type 0
Dead c n = (k : ℕ) → k < n → get_or c k (pos 0) ≡ pos 0

abbrev pub invariant-loop-z : goal.invariant-loop-z
invariant-loop-z l = (l.n ≤ l.z-index) × (l.n ≡ 0 → Dead l.c l.z-index)
