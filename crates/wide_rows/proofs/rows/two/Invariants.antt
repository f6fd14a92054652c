use Rattle.std.proofs.Common.{◌+◌, ◌^◌}
use Rattle.whole.specs.Sums.{dot_z}
use Rattle.wide_rows.specs.Lines.{taps}
use Rattle.wide_rows.proofs.Pairs.{Under, Pairing}
use Rattle.wide_rows.proofs.rows.two.Given as goal

abbrev pub invariant-loop-l : goal.invariant-loop-l
invariant-loop-l l =
    record {
      rows : Pairing (λ x. dot_z l.k (taps 2 x (l.d + l.d) l.w)) (λ x. dot_z l.h (taps 2 (x + l.d) (l.d + l.d) l.w)) l.lo l.hi l.l;
      small : Under (2 ^ 23) (λ x. dot_z l.k (taps 2 x (l.d + l.d) l.w)) l.l;
    }
