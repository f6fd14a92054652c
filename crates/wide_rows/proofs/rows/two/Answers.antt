-- `wide_rows::rows::two` meets its contract: the loop fills both rows. Assumes nothing.
use Rattle.std.proofs.Common.{◌+◌, ◌^◌, lit<, lit≤}
use native.Mathlib.Nat as N
use Rattle.whole.specs.Sums.{dot_z}
use Rattle.wide_rows.specs.Lines.{taps}
use Rattle.whole.proofs.Num.{Num, widen}
use Rattle.wide_rows.proofs.Shorts.{word, known, plus-is, minus_is}
use Rattle.wide_rows.proofs.Pairs.{low-more, pair-more, pair-done}
use Rattle.wide_rows.proofs.rows.two.Goals as goal

pub loop-l-preserved : goal.loop-l-preserved
loop-l-preserved c =
    let l = c.loop-l.l in
    let d = c.args.d in
    let y : Num (word c.sum-y.result) (dot_z c.args.k (taps 2 l (d + d) c.args.w.now)) (2 ^ 23) = known c.sum-y.ensures.0 c.sum-y.ensures.1 (lit< tt) in
    let o : Num (word c.sum-o.result) (dot_z c.args.h (taps 2 (l + d) (d + d) c.args.w.now)) (2 ^ 23) = known c.sum-o.ensures.0 c.sum-o.ensures.1 (lit< tt) in
    let yy : Num (word c.sum-y.result) (dot_z c.args.k (taps 2 l (d + d) c.args.w.now)) (2 ^ 28) = widen y (lit≤ tt) in
    let oo : Num (word c.sum-o.result) (dot_z c.args.h (taps 2 (l + d) (d + d) c.args.w.now)) (2 ^ 26) = widen o (lit≤ tt) in
    record {
      rows = pair-more c.loop-l.invariant.rows c.loop-l-test.true oo.size (plus-is yy oo) (minus_is yy oo);
      small = low-more (2 ^ 23) (λ x. dot_z c.args.k (taps 2 x (d + d) c.args.w.now)) l c.loop-l.invariant.small y.size;
    }

pub returns : goal.returns
returns c = (pair-done c.loop-l.invariant.rows c.loop-l-test.false, λ k q. c.loop-l.invariant.small k (N.lt_of_lt_of_le q c.loop-l-test.false))
