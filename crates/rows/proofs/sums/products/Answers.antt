-- `rows::sums::products` meets its contract: the loop fills the places with the products of the rows. Assumes nothing.
use native.Mathlib.Omega.{arith}
use Rattle.whole.proofs.Fill.{fill_done}
use Rattle.rows.proofs.sums.products.Goals as goal

pub returns : goal.returns
returns g c = fill_done c.loop-i.invariant (omega arith)
