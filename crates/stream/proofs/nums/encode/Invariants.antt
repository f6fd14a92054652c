use mathlib.Core.Path.{◌≡◌}
use Prim.Native.Nat.{◌*◌}
use lib.ListN.{drop}
use Rattle.stream.specs.Bytes.{nums_put}
use Rattle.stream.proofs.nums.encode.Given as goal

abbrev pub invariant-loop-i : goal.invariant-loop-i
invariant-loop-i l = nums_put l.initial.bytes 0 l.list ≡ nums_put l.bytes (4 * l.i) (drop l.i l.list)
