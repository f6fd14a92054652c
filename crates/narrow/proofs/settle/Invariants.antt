use Rattle.std.proofs.Common.{pos, get_or}
use Rattle.whole.specs.Numbers.{round_shift}
use Rattle.whole.proofs.Fill.{InPlace}
use Rattle.narrow.proofs.settle.Given as goal

abbrev pub invariant-loop-x : goal.invariant-loop-x
invariant-loop-x l = InPlace (pos 0) l.initial.out (λ k. round_shift l.shift (get_or l.initial.out k (pos 0))) l.out l.x-index
