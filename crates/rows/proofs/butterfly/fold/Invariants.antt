use lib.IntN.{pos}
use lib.ListN.{get_or}
use Rattle.whole.specs.Sums.{fold_at}
use Rattle.whole.proofs.Inward.{Inward}
use Rattle.rows.proofs.butterfly.fold.Given as goal

abbrev pub invariant-loop-k : goal.invariant-loop-k
invariant-loop-k l = Inward (pos 0) l.h l.initial.out (fold_at l.h (λ j. get_or l.initial.out j (pos 0)) (λ j. get_or l.odd j (pos 0))) l.out l.k
