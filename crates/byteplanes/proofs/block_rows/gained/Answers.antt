-- `byteplanes::block_rows::gained` meets its contract: the clamped pixel fits a byte. Assumes nothing.
use mathlib.Core.Path.{◌∙◌}
use lib.IntN.{pos}
use Rattle.whole.proofs.Num.{back}
use Rattle.whole.proofs.Range.{clamp-in-range}
use Rattle.byteplanes.proofs.block_rows.gained.Goals as goal

pub byte-requires : goal.byte-requires
byte-requires c = rw (back c.pixel-z.type_inv ∙ c.pixel-z.ensures) (clamp-in-range (pos 0) (pos 255) _ (record { le = tt }))
