-- `kernels::tx1d::of_32` meets its contract: each arm leaves the product of its kind. Assumes nothing.
use mathlib.Core.Path.{ap}
use lib.IntN.{pos}
use Rattle.tables.specs.Kinds.{code_of}
use Rattle.tables.specs.Dense.{first_of, dense_of}
use Rattle.kernels.proofs.ByCode.{by_code, times-left}
use Rattle.kernels.proofs.tx1d.of_32.Goals as goal

pub returns-in-Dct : goal.returns-in-Dct
unfolding dense_of
returns-in-Dct c = by_code (first_of c.args.live c.args.c.now) 32 (ap code_of c.in-Dct.is) c.inv_dct32.ensures

pub returns-in-Identity : goal.returns-in-Identity
unfolding dense_of
returns-in-Identity c =
    by_code (first_of c.args.live c.args.c.now) 32 (ap code_of c.in-Identity.is)
    (times-left (first_of c.args.live c.args.c.now) (pos 362) c.requires.1.1 c.inv_identity.ensures)
