use Prim.Native.Nat.{◌+◌, ◌≤◌}
use lib.IntN.{pos}
use lib.ListN.{get_or}
use Rattle.whole.proofs.Fill.{InPlace}
use Rattle.rows.proofs.butterfly.evens.Given as goal

abbrev pub invariant-loop-i : goal.invariant-loop-i
invariant-loop-i l = InPlace (pos 0) l.initial.c (λ k. get_or l.initial.c (k + k) (pos 0)) l.c l.i × (l.i ≤ l.n)
