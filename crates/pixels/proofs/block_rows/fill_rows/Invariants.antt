use Prim.Native.Nat.{◌+◌, ◌*◌, ◌-◌, ◌≤◌}
use lib.IntN.{ℤ, pos, ◌+ℤ◌}
use lib.ListN.{get_or}
use Rattle.whole.specs.Numbers.{clamp}
use Rattle.whole.proofs.Lent.{Rewriting}
use Rattle.pixels.specs.Pixels.{pixel_f}
use Rattle.pixels.specs.Rows.{served}
use Rattle.pixels.proofs.block_rows.fill_rows.Given as goal

abbrev pub invariant-loop-y : goal.invariant-loop-y
invariant-loop-y l = Rewriting (pixel_f (pos 0)) l.w l.w (λ r x. pixel_f (clamp (pos 0) l.hi (get_or l.pred (r * l.w + x) (pos 0) +ℤ served l.sw l.across l.down l.work r x))) l.initial.out l.out l.y
