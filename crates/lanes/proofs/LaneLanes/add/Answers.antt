-- `lanes::LaneLanes::add` meets its contract: each number by itself. Assumes nothing.
use mathlib.Core.Path.{refl}
use borrow.Author.Rules.{rules}
use lib.IntN.{pos}
use lib.ListN.{length-replicate}
use Rattle.whole.proofs.Fill.{filled_none}
use Rattle.lanes.proofs.Numbered.{past-last, number-more, numbered-all}
use Rattle.lanes.proofs.LaneLanes.add.Goals as goal

pub loop-k-init : goal.loop-k-init
loop-k-init g c = record { long = length-replicate _ _; holds = filled_none (pos 0) _ _ }

pub loop-k-preserved : goal.loop-k-preserved
loop-k-preserved g c = number-more c.loop-k.invariant c.loop-k-test.true (search (rules, c.requires c.loop-k.k))

pub returns : goal.returns
returns g c = numbered-all c.loop-k.invariant c.loop-k-test.false (λ k h. rw (past-last c.args.self.0 c.well_formed.0.1.1.1.0.1.0.1 h, past-last c.args.o.0 c.well_formed.1.0.1.1.1.0.1.0.1 h) refl)
