-- `remain::words::found` meets its contract: the loop is a search from the end. Assumes nothing.
use mathlib.Core.Path.{◌∙◌}
use native.Mathlib.Omega.{arith}
use borrow.Author.Tests.{eq-eqb, ne_eqb}
use lib.Dec.{eqb}
use Rattle.remain.specs.Remaining.{number_at}
use Rattle.remain.proofs.Finds.{last_step, found-is, none_is}
use Rattle.remain.proofs.words.found.Goals as goal

pub returns-then-s-i : goal.returns-then-s-i
returns-then-s-i c = found-is (λ k. eqb (number_at c.args.s.now k) c.args.number) _ _ c.loop-i-test.true c.loop-i.invariant (eq-eqb _ _ c.if-s-i.true)

pub loop-i-preserved : goal.loop-i-preserved
loop-i-preserved c =
    c.loop-i.invariant ∙ last_step (λ k. eqb (number_at c.args.s.now k) c.args.number) c.loop-i.i c.loop-i-test.true (ne_eqb _ _ c.if-s-i.false)

pub returns : goal.returns
returns c = none_is (λ k. eqb (number_at c.args.s.now k) c.args.number) _ _ (omega arith) c.loop-i.invariant
