use Prim.Native.Nat.{◌-◌, ◌/◌, ◌^◌}
use lib.IntN.{ℤ, pos, ◌+ℤ◌}
use lib.ListN.{length, get_or}
use Rattle.whole.specs.Numbers.{clamp}
use Rattle.whole.proofs.Fill.{Filling}
use Rattle.pixels.specs.Pixels.{pixel_f}
use Rattle.pixels.proofs.block_rows.fill_row.Given as goal

abbrev pub invariant-loop-x : goal.invariant-loop-x
invariant-loop-x l = Filling (pixel_f (pos 0)) (length l.initial.out) (λ k. pixel_f (clamp (pos 0) l.hi (get_or l.pred k (pos 0) +ℤ get_or l.e (k / 2 ^ l.half) (pos 0)))) l.out l.x
