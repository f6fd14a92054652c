-- `wide::short::grow` meets its contract: row after row. Assumes nothing.
use Rattle.std.proofs.Common.{◌≡◌, ◌≤◌, ◌<◌, ℕ, arith, subst, lit≤}
use Rattle.wide_rows.specs.Lines.{Doubled}
use Rattle.wide.proofs.Growth.{doubled-none, doubled-on, next-asks}
use Rattle.wide.proofs.short.grow.Goals as goal

pub loop-m-init : goal.loop-m-init
loop-m-init g c = doubled-none

pub row_of-requires : goal.row_of-requires
row_of-requires g c =
    let p = c.requires in
    let i = c.loop-m.m in
    let low : g.row.A ≤ i = omega arith in
    let high : i < g.row.Z = omega arith in
    let most : i < g.row.N = omega arith in
    (omega arith, p.2, next-asks {v = 2} {k = g.row.Z} c.loop-m.invariant p.6 (lit≤ tt) low high most p.5 p.3 p.4)

pub loop-m-preserved : goal.loop-m-preserved
loop-m-preserved g c = doubled-on c.loop-m.invariant (omega arith) (omega arith) c.row_of.ensures

pub returns : goal.returns
returns g c =
    let e : c.loop-m.m ≡ g.row.Z = omega arith in
    subst (λ (i : ℕ). Doubled g.row.N g.row.A i c.args.b c.args.t.now c.args.w.now c.args.out.now c.loop-m.out) e c.loop-m.invariant
