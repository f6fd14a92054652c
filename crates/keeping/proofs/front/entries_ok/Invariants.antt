use mathlib.Core.Path.{◌≡◌}
use Prim.Native.Nat.{◌-◌}
use Rattle.whole.specs.Search.{seek}
use Rattle.keeping.specs.Range.{area_of, entry_ok}
use Rattle.keeping.proofs.front.entries_ok.Given as goal

abbrev pub invariant-loop-i : goal.invariant-loop-i
invariant-loop-i l = seek (entry_ok (area_of l.a) l.s l.l) 0 l.k ≡ seek (entry_ok (area_of l.a) l.s l.l) l.i (l.k - l.i)
