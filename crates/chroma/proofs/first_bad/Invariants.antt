use mathlib.Core.Path.{◌≡◌}
use Prim.Native.Nat.{◌-◌}
use lib.ListN.{length}
use Rattle.whole.specs.Search.{seek}
use Rattle.chroma.specs.Chroma.{pair_ok}
use Rattle.chroma.proofs.first_bad.Given as goal

abbrev pub invariant-loop-i : goal.invariant-loop-i
invariant-loop-i l = seek (pair_ok l.lo l.hi l.u l.v) 0 (length l.u) ≡ seek (pair_ok l.lo l.hi l.u l.v) l.i (length l.u - l.i)
