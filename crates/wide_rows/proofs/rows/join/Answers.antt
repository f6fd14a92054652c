-- `wide_rows::rows::join` meets its contract: the loop fills both rows. Assumes nothing.
use Rattle.std.proofs.Common.{◌+◌, ◌^◌, pos, get_or, arith, refl, lit<}
use Rattle.whole.specs.Sums.{dot_z}
use Rattle.wide_rows.specs.Lines.{taps}
use Rattle.whole.proofs.Num.{Num}
use Rattle.whole.proofs.Sums.{within_all}
use Rattle.wide_rows.proofs.Shorts.{word, known, plus-is, minus_is}
use Rattle.wide_rows.proofs.Pairs.{pair-more, pair-done}
use Rattle.wide_rows.proofs.rows.join.Goals as goal

pub loop-l-preserved : goal.loop-l-preserved
loop-l-preserved g c =
    let l = c.loop-l.l in
    let y : Num (word (get_or c.args.e.now l (pos 0))) (get_or c.args.e.now l (pos 0)) (2 ^ 28) = known refl (within_all (2 ^ 28) c.args.e.now c.requires.1 l) (lit< tt) in
    let o : Num (word c.sum-o.result) (dot_z c.args.k (taps g.row.N (c.args.b + l) c.args.d c.args.w.now)) (2 ^ 26) = known c.sum-o.ensures.0 (omega (arith, c.sum-o.ensures.1, c.requires.3)) (lit< tt) in
    pair-more c.loop-l.invariant c.loop-l-test.true o.size (plus-is y o) (minus_is y o)

pub returns : goal.returns
returns g c = pair-done c.loop-l.invariant c.loop-l-test.false
