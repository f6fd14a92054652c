use lib.IntN.{pos}
use lib.ListN.{length, get_or}
use Rattle.whole.specs.Sums.{item}
use Rattle.whole.proofs.Fill.{Filling}
use Rattle.av1.proofs.dct.gather.Given as goal

abbrev pub invariant-loop-i : goal.invariant-loop-i
invariant-loop-i l = Filling (pos 0) (length l.t) (λ k. item l.t (get_or l.from k 0)) l.w l.i
