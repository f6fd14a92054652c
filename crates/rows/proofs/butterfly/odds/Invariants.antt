use Prim.Native.Nat.{◌+◌}
use lib.IntN.{pos}
use lib.ListN.{length, get_or}
use Rattle.whole.proofs.Fill.{Filling}
use Rattle.rows.proofs.butterfly.odds.Given as goal

abbrev pub invariant-loop-i : goal.invariant-loop-i
invariant-loop-i l = Filling (pos 0) (length l.initial.out) (λ k. get_or l.s (k + k + 1) (pos 0)) l.out l.i
