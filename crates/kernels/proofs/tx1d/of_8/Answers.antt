-- `kernels::tx1d::of_8` meets its contract: each arm leaves the product of its kind. Assumes nothing.
use mathlib.Core.Path.{ap}
use borrow.Author.Rules.{rules}
use lib.IntN.{pos}
use Rattle.tables.specs.Kinds.{code_of}
use Rattle.tables.specs.Dense.{first_of, dense_of}
use Rattle.kernels.proofs.ByCode.{by_code, times-left}
use Rattle.kernels.proofs.tx1d.of_8.Goals as goal

pub returns-in-Dct : goal.returns-in-Dct
unfolding dense_of
returns-in-Dct c = by_code (first_of c.args.live c.args.c.now) 8 (ap code_of c.in-Dct.is) c.inv_dct8.ensures

pub returns-in-Identity : goal.returns-in-Identity
unfolding dense_of
returns-in-Identity c =
    by_code (first_of c.args.live c.args.c.now) 8 (ap code_of c.in-Identity.is)
    (times-left (first_of c.args.live c.args.c.now) (pos 181) c.requires.1.1 c.inv_identity.ensures)

pub returns-in-Adst : goal.returns-in-Adst
unfolding dense_of
returns-in-Adst c = by_code (first_of c.args.live c.args.c.now) 8 (ap code_of c.in-Adst.is) (search rules)

pub returns-in-FlipAdst : goal.returns-in-FlipAdst
unfolding dense_of
returns-in-FlipAdst c = by_code (first_of c.args.live c.args.c.now) 8 (ap code_of c.in-FlipAdst.is) c.inv_flipadst8.ensures

pub returns-in-Ddt : goal.returns-in-Ddt
unfolding dense_of
returns-in-Ddt c = by_code (first_of c.args.live c.args.c.now) 8 (ap code_of c.in-Ddt.is) (search rules)

pub returns-in-FlipDdt : goal.returns-in-FlipDdt
unfolding dense_of
returns-in-FlipDdt c = by_code (first_of c.args.live c.args.c.now) 8 (ap code_of c.in-FlipDdt.is) c.inv_flipddt8.ensures
