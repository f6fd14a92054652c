-- `passes::block::inv_txfm_passes` meets its contract: the block of the size number and the type number. Assumes nothing.
use mathlib.Core.Path.{sym, subst}
use Rattle.whole.specs.Grid.{grid_of, Same}
use Rattle.tables.specs.declared.size.Size.{Size}
use Rattle.tables.specs.Sizes.{cut}
use Rattle.tables.specs.Kinds.{hor_of, ver_of}
use Rattle.passes.specs.Passes.{Block, block_of, passes_of}
use Rattle.passes.proofs.block.inv_txfm_passes.Goals as goal

pub block-requires : goal.block-requires
block-requires c =
    (subst (λ (t : Size). Block t.w t.h t.first c.hor.result c.ver.result c.args.bd c.args.coeff.now) (sym c.size_of-s.ensures) (rw (c.hor.ensures, c.ver.ensures) c.requires.1), c.requires.2)

pub returns : goal.returns
unfolding passes_of
returns c =
    subst (λ (t : Size). Same (cut t.w) (cut t.h) (grid_of (cut t.w) c.block.new.work) (block_of c.args.rowwise t.w t.h t.first (hor_of c.args.txtp) (ver_of c.args.txtp) c.args.bd c.args.coeff.now)) c.size_of-s.ensures
    (rw (← c.hor.ensures, ← c.ver.ensures) c.block.ensures)
