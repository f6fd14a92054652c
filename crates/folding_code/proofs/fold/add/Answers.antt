-- `folding_code::fold::add` meets its contract: the residuals, and the sum. Assumes nothing.
use mathlib.Core.Path.{sym, ◌∙◌, subst}
use lib.IntN.{◌+ℤ◌}
use Rattle.whole.specs.Sums.{tab, item}
use Rattle.wht.specs.Calls.{Sixteen}
use Rattle.wht.proofs.Lists.{residuals-bound}
use Rattle.folding_code.proofs.fold.add.Goals as goal

pub plus-requires : goal.plus-requires
plus-requires c = (subst (Sixteen 1048576) (sym c.residuals.ensures) (residuals-bound c.requires.0), c.requires.1)

pub returns : goal.returns
returns c = c.plus.ensures ∙ (λ t. tab 16 (λ k. item c.args.out.now k +ℤ item (c.residuals.ensures t) k))
