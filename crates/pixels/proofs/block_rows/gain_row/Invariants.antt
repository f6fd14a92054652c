use Prim.Native.Nat.{◌-◌, ◌/◌, ◌^◌}
use lib.IntN.{ℤ, pos, ◌+ℤ◌}
use lib.ListN.{length, get_or}
use Rattle.whole.specs.Numbers.{clamp}
use Rattle.whole.proofs.Fill.{InPlace}
use Rattle.pixels.proofs.block_rows.gain_row.Given as goal

abbrev pub invariant-loop-x : goal.invariant-loop-x
invariant-loop-x g l = InPlace (pos 0) l.initial.row (λ k. clamp (pos 0) l.hi (get_or l.initial.row k (pos 0) +ℤ get_or l.e (k / 2 ^ g.row.HALF) (pos 0))) l.row l.x
