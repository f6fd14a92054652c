use Prim.Native.Nat.{◌+◌, ◌*◌, ◌-◌, ◌≤◌}
use lib.IntN.{ℤ, pos, ◌+ℤ◌}
use lib.ListN.{get_or}
use Rattle.whole.specs.Numbers.{clamp}
use Rattle.whole.proofs.Lent.{Rewriting}
use Rattle.pixels.specs.Rows.{served}
use Rattle.pixels.proofs.block_rows.add_rows.Given as goal

abbrev pub invariant-loop-y : goal.invariant-loop-y
invariant-loop-y l = Rewriting (pos 0) l.stride l.w (λ r x. clamp (pos 0) l.hi (get_or l.initial.dst (r * l.stride + x) (pos 0) +ℤ served l.sw l.across l.down l.work r x)) l.initial.dst l.dst l.y
