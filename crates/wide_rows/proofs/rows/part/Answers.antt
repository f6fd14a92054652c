-- `wide_rows::rows::part` meets its contract: the loop fills the row. Assumes nothing.
use Rattle.std.proofs.Common.{◌+◌, ◌^◌, sym, subst}
use native.Mathlib.Nat as N
use Rattle.whole.specs.Sums.{dot_z, Within}
use Rattle.wide_rows.specs.Lines.{taps}
use Rattle.whole.proofs.Fill.{fill_done, within-tab}
use Rattle.wide_rows.proofs.rows.part.Goals as goal

pub returns : goal.returns
returns g c =
    let i = c.loop-l.invariant in
    let e = fill_done i.filled c.loop-l-test.false in
    (e, subst (Within (2 ^ 25)) (sym e) (within-tab (2 ^ 25) 16 (λ x. dot_z c.args.k (taps g.row.N (c.args.b + x) c.args.d c.args.w.now)) (λ x q. i.small x (N.lt_of_lt_of_le q c.loop-l-test.false))))
