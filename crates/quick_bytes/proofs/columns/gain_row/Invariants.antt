use lib.IntN.{pos}
use lib.ListN.{get_or}
use Rattle.whole.proofs.Fill.{InPlace}
use Rattle.quick_bytes.specs.Held.{reached}
use Rattle.quick_bytes.proofs.columns.gain_row.Given as goal

abbrev pub invariant-loop-x : goal.invariant-loop-x
invariant-loop-x l = InPlace 0 l.initial.row (λ k. reached l.shift (get_or l.initial.row k 0) (get_or l.e k (pos 0))) l.row l.x
