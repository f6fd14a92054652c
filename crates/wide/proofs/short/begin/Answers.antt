-- `wide::short::begin` meets its contract: row after row. Assumes nothing.
use Rattle.std.proofs.Common.{◌≡◌, ◌+◌, ℕ, arith, subst}
use Rattle.wide_rows.specs.Lines.{Begun}
use Rattle.wide.proofs.Beginnings.{begun-none, begun-on}
use Rattle.wide.proofs.short.begin.Goals as goal

pub loop-m-init : goal.loop-m-init
loop-m-init g c = begun-none

pub row_of_two-requires : goal.row_of_two-requires
row_of_two-requires g c = (omega arith, omega (arith, c.loop-m.invariant.long), omega arith, omega arith)

pub loop-m-preserved : goal.loop-m-preserved
loop-m-preserved g c = begun-on c.loop-m.invariant c.loop-m-test.true c.row_of_two.ensures

pub returns : goal.returns
returns g c =
    let e : c.loop-m.m ≡ g.row.H = omega arith in
    subst (λ (i : ℕ). Begun (g.row.H + g.row.H) c.args.d g.row.H i c.args.t.now c.args.w.now c.args.out.now c.loop-m.out) e c.loop-m.invariant
