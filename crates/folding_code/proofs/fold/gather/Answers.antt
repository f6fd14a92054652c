-- `folding_code::fold::gather` meets its contract: at j, the sum of the first j steps. Assumes nothing.
use Rattle.folding.specs.Owners.{total}
use Rattle.folding_code.proofs.fold.gather.Goals as goal

pub loop-j-init : goal.loop-j-init
unfolding total
loop-j-init c = c.requires.sums.1
