-- `nums::unsigned` meets its contract: each number is turned. Assumes nothing.
use mathlib.Core.Path.{sym, ◌∙◌}
use lib.IntN.{pos}
use Rattle.whole.proofs.Fill.{filled-all}
use Rattle.stream.proofs.nums.unsigned.Goals as goal

pub returns : goal.returns
returns c = filled-all 0 c.turn.new.out _ _ (c.turn.auto.out ∙ sym c.requires) (λ k h. c.turn.ensures k (pos 0) 0 h)
