-- `wht::blocks::forward44` meets its contract: columns, then rows. The first pass at most doubles the numbers. Assumes nothing.
use mathlib.Core.Path.{sym, ap, ◌∙◌, subst}
use lib.Dec.{lit≤}
use Rattle.wht.specs.Bounds.{Sizes}
use Rattle.wht.specs.Wht.{fore, each, turn, fore44}
use Rattle.wht.proofs.Size.{wider, turned, eached, fore-size}
use Rattle.wht.proofs.blocks.forward44.Goals as goal

pub forward_rows-q-requires : goal.forward_rows-q-requires
forward_rows-q-requires c = subst (Sizes 2097152) (sym c.turned-p.ensures) (wider (turned c.requires) (lit≤ tt))

pub forward_rows-requires : goal.forward_rows-requires
forward_rows-requires c =
    let c1 = c.before in
    let c2 = c1.before in
    subst (Sizes 2097152) (sym (c.turned-r.ensures ∙ ap turn (c1.forward_rows-q.ensures ∙ ap (each fore) c2.turned-p.ensures)))
    (turned (eached (turned c2.requires) fore (λ o t. fore-size t)))

pub returns : goal.returns
unfolding fore44
returns c =
    let c1 = c.before in
    let c2 = c1.before in
    let c3 = c2.before in
    c.forward_rows.ensures ∙ ap (each fore) (c1.turned-r.ensures ∙ ap turn (c2.forward_rows-q.ensures ∙ ap (each fore) c3.turned-p.ensures))
