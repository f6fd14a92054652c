-- `wht::residuals` meets its contract: the block, its transform, and the block stored. Assumes nothing.
use mathlib.Core.Path.{sym, ap, ◌∙◌, subst}
use lib.Dec.{lit≤}
use Rattle.wht.specs.Bounds.{Sizes}
use Rattle.wht.specs.Wht.{back44, flat, iwht}
use Rattle.wht.proofs.Size.{of-list, wider}
use Rattle.wht.proofs.residuals.Goals as goal

pub inverse44-r-requires : goal.inverse44-r-requires
inverse44-r-requires c = let s = c.before in subst (Sizes 1048576) (sym c.loaded-m.ensures) (wider (of-list s.args.level.now s.requires.0.small) (lit≤ tt))

pub returns : goal.returns
unfolding iwht
returns c =
    let d = c.before in
    let i = d.before.before in
    d.stored.ensures ∙ ap flat (i.inverse44-r.ensures ∙ ap back44 i.loaded-m.ensures)
