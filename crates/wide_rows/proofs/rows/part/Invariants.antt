use Rattle.std.proofs.Common.{◌+◌, ◌^◌, pos}
use Rattle.whole.specs.Sums.{dot_z}
use Rattle.wide_rows.specs.Lines.{taps}
use Rattle.whole.proofs.Fill.{Filling}
use Rattle.wide_rows.proofs.Pairs.{Under}
use Rattle.wide_rows.proofs.rows.part.Given as goal

abbrev pub invariant-loop-l : goal.invariant-loop-l
invariant-loop-l g l =
    record {
      filled : Filling (pos 0) 16 (λ x. dot_z l.k (taps g.row.N (l.b + x) l.d l.w)) l.r l.l;
      small : Under (2 ^ 25) (λ x. dot_z l.k (taps g.row.N (l.b + x) l.d l.w)) l.l;
    }
