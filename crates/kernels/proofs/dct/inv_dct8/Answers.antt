-- `kernels::dct::inv_dct8` meets its contract: the head of the table for at most four live inputs, else the whole, the others cleared. Assumes nothing.
use mathlib.Core.Path.{refl, sym, ap, ◌∙◌, subst}
use mathlib.Core.Logic.{inl}
use Rattle.whole.specs.Sums.{dense_c}
use Rattle.tables.specs.Dct.{dct8}
use Rattle.kernels.specs.Inputs.{Inputs}
use Rattle.kernels.proofs.dct.inv_dct8.Goals as goal

pub head-requires : goal.head-requires
head-requires c = (inl (refl, refl), c.if-live-le4.true, c.requires)

pub flat8-requires : goal.flat8-requires
flat8-requires c = subst (Inputs 8) (sym c.clear.ensures) c.requires.1

pub returns-then-live-le4 : goal.returns-then-live-le4
returns-then-live-le4 c = c.head.ensures

pub returns-else-live-le4 : goal.returns-else-live-le4
returns-else-live-le4 c = c.flat8.ensures ∙ ap (dense_c 8 dct8) c.clear.ensures
