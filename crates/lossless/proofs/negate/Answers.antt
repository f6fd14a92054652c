-- `lossless::negate` meets its contract: at k, the first k numbers have the other sign. Assumes nothing.
use mathlib.Core.Path.{◌∙◌}
use native.Mathlib.Omega.{arith}
use lib.IntN.{pos, neg_ℤ}
use Rattle.whole.proofs.Fill.{place-done}
use Rattle.whole.proofs.Maps.{tab-map}
use Rattle.lossless.proofs.negate.Goals as goal

pub returns : goal.returns
returns c = place-done c.loop-z.invariant (omega arith) ∙ tab-map neg_ℤ (pos 0) c.args.l.now
