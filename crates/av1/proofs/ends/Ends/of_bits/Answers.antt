-- `Ends::of_bits` meets its contract: of at most 20 bits, the ends are of size at most 2^19. Assumes nothing.
use mathlib.Core.Path.{◌∙◌}
use Rattle.whole.proofs.Num.{back}
use Rattle.av1.proofs.Accepted.{low-size, high-size}
use Rattle.av1.proofs.Tested.{size}
use Rattle.av1.proofs.ends.Ends.of_bits.Goals as goal

pub invariant_of-result : goal.invariant_of-result
invariant_of-result c =
    record { small = (size (back c.low_end.type_inv ∙ c.low_end.ensures) (low-size c.args.bits c.requires.1), size (back c.high_end.type_inv ∙ c.high_end.ensures) (high-size c.args.bits c.requires.1)) }
