-- `wht::blocks::inverse44` meets its contract: rows, then columns. The first pass at most doubles the numbers. Assumes nothing.
use mathlib.Core.Path.{sym, ap, ◌∙◌, subst}
use Rattle.wht.specs.Bounds.{Sizes}
use Rattle.wht.specs.Wht.{back, each, turn, back44}
use Rattle.wht.proofs.Size.{turned, eached, back-size}
use Rattle.wht.proofs.blocks.inverse44.Goals as goal

pub inverse_rows-r-requires : goal.inverse_rows-r-requires
inverse_rows-r-requires c =
    let c1 = c.before in
    subst (Sizes 2097152) (sym (c.turned-q.ensures ∙ ap turn c1.inverse_rows-p.ensures)) (turned (eached c1.requires back (λ o t. back-size t)))

pub returns : goal.returns
unfolding back44
returns c =
    let c1 = c.before in
    let c2 = c1.before in
    c.turned.ensures ∙ ap turn (c1.inverse_rows-r.ensures ∙ ap (each back) (c2.turned-q.ensures ∙ ap turn c2.inverse_rows-p.ensures))
