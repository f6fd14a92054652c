-- `wide_rows::rows::join_more` meets its contract: the loop fills both rows. Assumes nothing.
use Rattle.std.proofs.Common.{◌+◌, ◌^◌, pos, ◌+ℤ◌, get_or, ℕ, arith, refl, lit<}
use Rattle.whole.specs.Sums.{dot_z}
use Rattle.wide_rows.specs.Lines.{taps}
use Rattle.whole.proofs.Num.{Num}
use Rattle.whole.proofs.Sums.{within_all}
use Rattle.wide_rows.proofs.Shorts.{word, known, added, plus-is, minus-fits, minus_is}
use Rattle.wide_rows.proofs.Pairs.{pair-more, pair-done}
use Rattle.wide_rows.proofs.rows.join_more.Given.{Over}
use Rattle.wide_rows.proofs.rows.join_more.Goals as goal

module _ (g : Over) (c : goal.After-y-1 g) where
  abbrev l : ℕ
  l = c.loop-l.l

  y : Num (word (get_or c.args.e.now l (pos 0))) (get_or c.args.e.now l (pos 0)) (2 ^ 28)
  y = known refl (within_all (2 ^ 28) c.args.e.now c.requires.1 l) (lit< tt)

  o : Num (word (word (get_or c.args.p l (pos 0)) +ℤ word c.sum-s.result)) (get_or c.args.p l (pos 0) +ℤ dot_z c.args.k (taps g.row.N (c.args.b + l) c.args.d c.args.w.now)) (2 ^ 26)
  o =
      added (known refl (within_all (2 ^ 25) c.args.p c.requires.2 l) (lit< tt))
      (known c.sum-s.ensures.0 (omega (arith, c.sum-s.ensures.1, c.requires.4)) (lit< tt))

pub overflow_sub-hi : goal.overflow_sub-hi
overflow_sub-hi g c = minus-fits (y g c) (o g c)

pub loop-l-preserved : goal.loop-l-preserved
loop-l-preserved g c = pair-more c.loop-l.invariant c.loop-l-test.true (o g c).size (plus-is (y g c) (o g c)) (minus_is (y g c) (o g c))

pub returns : goal.returns
returns g c = pair-done c.loop-l.invariant c.loop-l-test.false
