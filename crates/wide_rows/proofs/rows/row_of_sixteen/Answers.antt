-- `wide_rows::rows::row_of_sixteen` meets its contract. Assumes nothing.
use Rattle.std.proofs.Common.{◌+◌, ◌*◌, ◌≤◌, length, arith, lit<, lit≤}
use Rattle.wide_rows.proofs.Places.{row_count, row_within, joined-long}
use Rattle.wide_rows.proofs.rows.row_of_sixteen.Goals as goal

pub join_more-q-requires : goal.join_more-q-requires
join_more-q-requires c =
    let f : c.args.m * 16 + 16 ≤ length c.args.out.now = omega arith in
    (lit< tt, (row_count c.args.m c.args.out.now f, row_within c.args.m c.args.out.now f c.requires.0.small, c.requires.1.1, omega arith, lit≤ tt, c.weights-k.ensures.1))

pub returns : goal.returns
returns c =
    let a = c.join_more-q in
    joined-long c.args.m c.args.z c.args.b c.args.out.now _ c.args.w.now c.args.t.now a.result.lo a.result.hi (omega arith) c.args.p c.weights-k.result c.requires.1 c.weights-k.ensures.0 a.ensures c.put_two.ensures
