-- `kernels::dst::inv_flipddt8` meets its contract: one test of its table. Assumes nothing.
use mathlib.Core.Bool.{true}
use lib.Dec.{lit≤}
use Rattle.tables.specs.Dense.{first_of}
use Rattle.tables.specs.Dst.{ddt8}
use Rattle.kernels.proofs.ByRows.{dst-asks, dst-left}
use Rattle.kernels.proofs.dst.inv_flipddt8.Goals as goal

pub inv_dst-requires : goal.inv_dst-requires
inv_dst-requires c = dst-asks 8 ddt8 tt (first_of c.args.live c.args.c.now) c.requires.1 (lit≤ tt)

pub returns : goal.returns
returns c = dst-left true 8 ddt8 (first_of c.args.live c.args.c.now) c.requires.1 c.inv_dst.ensures
