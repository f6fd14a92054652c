-- `folding_code::fold::levels_of` meets its contract: the block, its transform, and the block stored. Assumes nothing.
use mathlib.Core.Path.{sym, ap, ◌∙◌, subst}
use Rattle.wht.specs.Bounds.{Sizes}
use Rattle.wht.specs.Wht.{fore44, flat, fwht}
use Rattle.wht.proofs.Size.{of-list}
use Rattle.folding_code.proofs.fold.levels_of.Goals as goal

pub forward44-r-requires : goal.forward44-r-requires
forward44-r-requires c = subst (Sizes 1048576) (sym c.loaded-m.ensures) (of-list c.args.g.now c.requires.0.small)

pub returns : goal.returns
unfolding fwht
returns c =
    c.stored.ensures ∙ ap flat (c.forward44-r.ensures ∙ ap fore44 c.loaded-m.ensures)
