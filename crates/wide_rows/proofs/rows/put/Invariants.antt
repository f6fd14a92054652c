use Rattle.std.proofs.Common.{pos, get_or}
use Rattle.whole.proofs.Fill.{Filling}
use Rattle.wide_rows.proofs.rows.put.Given as goal

abbrev pub invariant-loop-l : goal.invariant-loop-l
invariant-loop-l l = Filling (pos 0) 16 (λ x. get_or l.r x (pos 0)) l.out l.l
