-- `wide_rows::rows::row_of` meets its contract. Assumes nothing.
use Rattle.std.proofs.Common.{arith}
use Rattle.wide_rows.proofs.Places.{joined-row}
use Rattle.wide_rows.proofs.rows.row_of.Goals as goal

pub returns : goal.returns
returns g c =
    let a = c.join-q in
    joined-row c.args.m c.args.z c.args.b c.args.out.now _ c.args.w.now c.args.t.now a.result.lo a.result.hi (omega arith) g.row.N c.weights-k.result c.weights-k.ensures.0 a.ensures c.put_two.ensures
