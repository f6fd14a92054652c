use lib.IntN.{pos}
use lib.ListN.{get_or}
use Rattle.whole.specs.Numbers.{clamp, round_shift}
use Rattle.whole.proofs.Fill.{InPlace}
use Rattle.passes.proofs.step.settle.Given as goal

abbrev pub invariant-loop-z : goal.invariant-loop-z
invariant-loop-z l = InPlace (pos 0) l.initial.c (λ k. clamp l.lo l.hi (round_shift l.shift (get_or l.initial.c k (pos 0)))) l.c l.z-index
