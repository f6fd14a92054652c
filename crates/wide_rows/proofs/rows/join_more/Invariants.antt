use Rattle.std.proofs.Common.{◌+◌, pos, ◌+ℤ◌, get_or}
use Rattle.whole.specs.Sums.{dot_z}
use Rattle.wide_rows.specs.Lines.{taps}
use Rattle.wide_rows.proofs.Pairs.{Pairing}
use Rattle.wide_rows.proofs.rows.join_more.Given as goal

abbrev pub invariant-loop-l : goal.invariant-loop-l
invariant-loop-l g l = Pairing (λ x. get_or l.e x (pos 0)) (λ x. get_or l.p x (pos 0) +ℤ dot_z l.k (taps g.row.N (l.b + x) l.d l.w)) l.lo l.hi l.l
