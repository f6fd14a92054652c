-- `wht::levels` meets its contract: the block, its transform, and the block stored. Assumes nothing.
use mathlib.Core.Path.{sym, ap, ◌∙◌, subst}
use lib.Dec.{lit≤}
use Rattle.wht.specs.Bounds.{Sizes}
use Rattle.wht.specs.Wht.{fore44, flat, fwht}
use Rattle.wht.proofs.Size.{of-list, wider}
use Rattle.wht.proofs.levels.Goals as goal

pub forward44-r-requires : goal.forward44-r-requires
forward44-r-requires c = let s = c.before in subst (Sizes 1048576) (sym c.loaded-m.ensures) (wider (of-list s.args.resid.now s.requires.0.small) (lit≤ tt))

pub returns : goal.returns
unfolding fwht
returns c =
    let d = c.before in
    let i = d.before.before in
    d.stored.ensures ∙ ap flat (i.forward44-r.ensures ∙ ap fore44 i.loaded-m.ensures)
