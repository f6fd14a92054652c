use Prim.Native.Nat.{◌/◌, ◌^◌}
use lib.IntN.{pos}
use lib.ListN.{length, get_or}
use Rattle.whole.specs.Numbers.{round_shift}
use Rattle.whole.proofs.Fill.{Filling}
use Rattle.fast.specs.Gains.{gain_of}
use Rattle.pixels.specs.Pixels.{pixel_f}
use Rattle.quick.proofs.filling.fill.Given as goal

abbrev pub invariant-loop-x : goal.invariant-loop-x
invariant-loop-x g l = Filling (pixel_f (pos 0)) (length l.initial.out) (λ k. pixel_f (gain_of (get_or l.pred k (pos 0)) (round_shift l.shift (get_or l.e (k / 2 ^ g.row.HALF) (pos 0))))) l.out l.x
