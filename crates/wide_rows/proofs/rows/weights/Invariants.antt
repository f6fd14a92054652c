use Rattle.std.proofs.Common.{◌+◌, ◌*◌, ◌^◌, pos, get_or}
use Rattle.whole.proofs.Fill.{Filling}
use Rattle.wide_rows.proofs.Pairs.{Under}
use Rattle.wide_rows.proofs.rows.weights.Given as goal

abbrev pub invariant-loop-i : goal.invariant-loop-i
invariant-loop-i g l = record { filled : Filling (pos 0) g.row.N (λ x. get_or l.t (l.p + x * l.d) (pos 0)) l.k l.i; small : Under (2 ^ 7) (λ x. get_or l.t (l.p + x * l.d) (pos 0)) l.i }
