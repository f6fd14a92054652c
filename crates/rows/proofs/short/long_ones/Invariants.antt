use mathlib.Core.Path.{◌≡◌}
use mathlib.Core.Bool.{not}
use Prim.Native.Nat.{◌≤◌}
use lib.ListN.{take}
use Rattle.std.specs.List.{count_by}
use Rattle.rows.specs.Short.{is_short}
use Rattle.rows.proofs.short.long_ones.Given as goal

abbrev pub invariant-loop-x : goal.invariant-loop-x
invariant-loop-x l = (l.n ≡ count_by (λ z. not (is_short z)) (take l.x-index l.xs)) × (l.n ≤ l.x-index)
