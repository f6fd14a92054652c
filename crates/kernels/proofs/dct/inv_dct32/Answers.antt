-- `kernels::dct::inv_dct32` meets its contract: the head of the table for at most four live inputs, else the whole, the others cleared. Assumes nothing.
use mathlib.Core.Path.{refl, sym, ap, ◌∙◌, subst}
use mathlib.Core.Logic.{inr}
use Rattle.whole.specs.Sums.{dense_c}
use Rattle.tables.specs.Dct.{dct32}
use Rattle.kernels.specs.Inputs.{Inputs}
use Rattle.kernels.proofs.dct.inv_dct32.Goals as goal

pub head-requires : goal.head-requires
head-requires c = (inr (inr (refl, refl)), c.if-live-le4.true, c.requires)

pub flat32-requires : goal.flat32-requires
flat32-requires c = subst (Inputs 32) (sym c.clear.ensures) c.requires.1

pub returns-then-live-le4 : goal.returns-then-live-le4
returns-then-live-le4 c = c.head.ensures

pub returns-else-live-le4 : goal.returns-else-live-le4
returns-else-live-le4 c = c.flat32.ensures ∙ ap (dense_c 32 dct32) c.clear.ensures
