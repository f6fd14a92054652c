use lib.IntN.{pos}
use lib.ListN.{length, get_or}
use Rattle.whole.proofs.Fill.{Filling}
use Rattle.rows.proofs.short.shorten.Given as goal

abbrev pub invariant-loop-i : goal.invariant-loop-i
invariant-loop-i l = Filling (pos 0) (length l.xs) (λ k. get_or l.xs k (pos 0)) l.s l.i
