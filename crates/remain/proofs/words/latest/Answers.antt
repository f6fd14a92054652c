-- `remain::words::latest` meets its contract: the loop is a search from the end. Assumes nothing.
use mathlib.Core.Path.{sym, ◌∙◌}
use native.Mathlib.Omega.{arith}
use Rattle.remain.specs.Touch.{touches}
use Rattle.remain.specs.Remaining.{mark_at}
use Rattle.remain.proofs.Finds.{last_step, found-is, none_is}
use Rattle.remain.proofs.words.latest.Goals as goal

pub returns-then-touching : goal.returns-then-touching
returns-then-touching c = found-is (λ k. touches c.args.row c.args.column (mark_at c.args.s.now k)) _ _ c.loop-i-test.true c.loop-i.invariant (sym c.touching.ensures ∙ c.if-touching.true)

pub loop-i-preserved : goal.loop-i-preserved
loop-i-preserved c =
    c.loop-i.invariant ∙ last_step (λ k. touches c.args.row c.args.column (mark_at c.args.s.now k)) c.loop-i.i c.loop-i-test.true (sym c.touching.ensures ∙ c.if-touching.false)

pub returns : goal.returns
returns c = none_is (λ k. touches c.args.row c.args.column (mark_at c.args.s.now k)) _ _ (omega arith) c.loop-i.invariant
