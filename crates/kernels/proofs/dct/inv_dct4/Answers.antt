-- `kernels::dct::inv_dct4` meets its contract: the numbers that are not live are cleared. Assumes nothing.
use mathlib.Core.Path.{sym, ap, ◌∙◌, subst}
use Rattle.whole.specs.Sums.{dense_c}
use Rattle.tables.specs.Dct.{dct4}
use Rattle.kernels.specs.Inputs.{Inputs}
use Rattle.kernels.proofs.dct.inv_dct4.Goals as goal

pub four-requires : goal.four-requires
four-requires c = subst (Inputs 4) (sym c.clear.ensures) c.requires.1

pub returns : goal.returns
returns c = c.four.ensures ∙ ap (dense_c 4 dct4) c.clear.ensures
