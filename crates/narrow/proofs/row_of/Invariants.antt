use Rattle.std.proofs.Common.{◌+◌, ◌*◌, pos, get_or}
use Rattle.whole.proofs.Fill.{Filling}
use Rattle.narrow.proofs.row_of.Given as goal

abbrev pub invariant-loop-l : goal.invariant-loop-l
invariant-loop-l l = Filling (pos 0) 16 (λ k. get_or l.out (l.y * 16 + k) (pos 0)) l.r l.l
