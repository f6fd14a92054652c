-- `rows::butterfly::odds` meets its contract: the loop fills the places with the odd inputs. Assumes nothing.
use native.Mathlib.Omega.{arith}
use Rattle.whole.proofs.Fill.{fill_done}
use Rattle.rows.proofs.butterfly.odds.Goals as goal

pub returns : goal.returns
returns c = fill_done c.loop-i.invariant (omega arith)
