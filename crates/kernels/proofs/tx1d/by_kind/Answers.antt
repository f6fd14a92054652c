-- `kernels::tx1d::by_kind` meets its contract: each arm leaves the product of its length. Assumes nothing.
use Rattle.tables.specs.Kinds.{code_of}
use Rattle.tables.specs.Dense.{first_of, dense_of}
use Rattle.kernels.proofs.ByCode.{by_code, by_length, asked-at, only-64, only-0}
use Rattle.kernels.proofs.tx1d.by_kind.Goals as goal

pub returns-in_default : goal.returns-in_default
unfolding dense_of
returns-in_default c =
    let code = code_of c.args.kind in
    let e = only-64 c.args.n code c.requires.0 c.in_default.in_default-own.rest.0.0.0.1 c.in_default.in_default-own.rest.0.0.1 c.in_default.in_default-own.rest.0.1 c.in_default.in_default-own.rest.1 in
    by_length (first_of c.args.live c.args.c.now) code e
    (by_code (first_of c.args.live c.args.c.now) 64 (only-0 code (asked-at c.args.c.now c.args.live code e c.requires).0) c.inv_dct32.ensures)
