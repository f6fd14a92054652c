-- `kernels::dct::inv_dct16` meets its contract: the head of the table for at most four live inputs, else the whole, the others cleared. Assumes nothing.
use mathlib.Core.Path.{refl, sym, ap, ◌∙◌, subst}
use mathlib.Core.Logic.{inl, inr}
use Rattle.whole.specs.Sums.{dense_c}
use Rattle.tables.specs.Dct.{dct16}
use Rattle.kernels.specs.Inputs.{Inputs}
use Rattle.kernels.proofs.dct.inv_dct16.Goals as goal

pub head-requires : goal.head-requires
head-requires c = (inr (inl (refl, refl)), c.if-live-le4.true, c.requires)

pub flat16-requires : goal.flat16-requires
flat16-requires c = subst (Inputs 16) (sym c.clear.ensures) c.requires.1

pub returns-then-live-le4 : goal.returns-then-live-le4
returns-then-live-le4 c = c.head.ensures

pub returns-else-live-le4 : goal.returns-else-live-le4
returns-else-live-le4 c = c.flat16.ensures ∙ ap (dense_c 16 dct16) c.clear.ensures
