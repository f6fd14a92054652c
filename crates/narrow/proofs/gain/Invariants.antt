use Rattle.std.proofs.Common.{◌/◌, ◌^◌, pos, ◌+ℤ◌, get_or}
use Rattle.whole.specs.Numbers.{clamp, round_shift}
use Rattle.whole.proofs.Fill.{InPlace}
use Rattle.narrow.proofs.gain.Given as goal

abbrev pub invariant-loop-x : goal.invariant-loop-x
invariant-loop-x g l = InPlace (pos 0) l.initial.row (λ k. clamp (pos 0) (pos 255) (get_or l.initial.row k (pos 0) +ℤ round_shift l.shift (get_or l.e (k / 2 ^ g.row.HALF) (pos 0)))) l.row l.x
