-- `pixels::output::fill_block` meets its contract: the brightest sample is a pixel. Assumes nothing.
use mathlib.Core.Path.{sym, ◌∙◌, subst}
use native.Mathlib.Omega.{arith}
use Rattle.whole.proofs.Num.{back}
use Rattle.pixels.specs.Pixels.{IsPixel}
use Rattle.pixels.proofs.Floats.{highest-pixel}
use Rattle.pixels.proofs.output.fill_block.Goals as goal

pub fill_rows-requires-clause-w_nonzero : goal.fill_rows-requires-clause-w_nonzero
fill_rows-requires-clause-w_nonzero c =
    (omega (arith, c.requires.sides.0.wide), c.requires.sides.2, c.requires.sides.3, c.requires.sides.4, subst IsPixel (sym (back c.high_end-hi.type_inv ∙ c.high_end-hi.ensures)) (highest-pixel c.args.bd c.requires.sides.1))
