-- `folding_code::fold::owner` meets its contract: the number fits. Assumes nothing.
use native.Mathlib.Omega.{arith}
use Rattle.folding_code.proofs.fold.owner.Goals as goal

pub overflow_cast-result : goal.overflow_cast-result
overflow_cast-result c = omega (arith, c.shared_slice_known-1.given c.args.j)
