-- `nums::widen` meets its contract: each number is turned. Assumes nothing.
use mathlib.Core.Path.{sym, ◌∙◌}
use lib.IntN.{pos}
use Rattle.whole.proofs.Fill.{filled-all}
use Rattle.stream.proofs.nums.widen.Goals as goal

pub returns : goal.returns
returns c = filled-all (pos 0) c.turn.new.out _ _ (c.turn.auto.out ∙ sym c.requires) (λ k h. c.turn.ensures k 0 (pos 0) h)
