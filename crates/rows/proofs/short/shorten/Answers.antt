-- `rows::short::shorten` meets its contract: the loop fills the places with the numbers of xs, which 16 bits hold. Assumes nothing.
use mathlib.Core.Path.{◌∙◌}
use native.Mathlib.Omega.{arith}
use lib.IntN.{pos}
use Rattle.whole.proofs.Fill.{fill_done, tab-list}
use Rattle.rows.proofs.short.shorten.Goals as goal

pub returns : goal.returns
returns c = fill_done c.loop-i.invariant (omega arith) ∙ tab-list (pos 0) c.args.xs.now
