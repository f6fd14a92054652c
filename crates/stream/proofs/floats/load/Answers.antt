-- `floats::load` meets its contract: each number's float is made. Assumes nothing.
use mathlib.Core.Path.{sym, ◌∙◌}
use lib.Ieee.{nan}
use lib.IntN.{pos}
use Rattle.whole.proofs.Fill.{filled-all}
use Rattle.stream.proofs.floats.load.Goals as goal

pub returns : goal.returns
returns c = filled-all nan c.turn.new.out _ _ (c.turn.auto.out ∙ sym c.requires) (λ k h. c.turn.ensures k (pos 0) nan h)
