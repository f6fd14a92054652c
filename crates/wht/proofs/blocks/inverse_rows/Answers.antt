-- `wht::blocks::inverse_rows` meets its contract: `back` is `fore` between two exchanges. Assumes nothing.
use mathlib.Core.Path.{sym, ap, ◌∙◌, subst}
use Rattle.wht.specs.Bounds.{Sizes}
use Rattle.wht.specs.Wht.{fore, swap, each}
use Rattle.wht.proofs.Size.{eached, swap-size}
use Rattle.wht.proofs.blocks.inverse_rows.Goals as goal

pub forward_rows-q-requires : goal.forward_rows-q-requires
forward_rows-q-requires c = subst (Sizes 2097152) (sym c.swapped-p.ensures) (eached c.requires swap (λ o t. swap-size t))

pub returns : goal.returns
returns c = c.swapped.ensures ∙ ap (each swap) (c.forward_rows-q.ensures ∙ ap (each fore) c.swapped-p.ensures)
