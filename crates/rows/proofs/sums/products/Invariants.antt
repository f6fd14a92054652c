use mathlib.Core.List.{map}
use lib.IntN.{pos}
use Rattle.whole.specs.Sums.{dot_z, row_at}
use Rattle.whole.proofs.Fill.{Filling}
use Rattle.rows.proofs.sums.products.Given as goal

abbrev pub invariant-loop-i : goal.invariant-loop-i
invariant-loop-i g l = Filling (pos 0) l.n (λ k. dot_z (row_at l.n l.mat k) (map g.T.Number.value l.xs)) l.out l.i
