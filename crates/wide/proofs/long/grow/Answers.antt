-- `wide::long::grow` meets its contract: row after row. Assumes nothing.
use Rattle.std.proofs.Common.{◌≡◌, ◌≤◌, ◌<◌, ℕ, arith, subst, lit≤}
use Rattle.wide_rows.specs.Lines.{Doubled}
use Rattle.wide.proofs.Growth.{doubled-none, doubled-on, next-asks}
use Rattle.wide.proofs.long.grow.Goals as goal

pub loop-m-init : goal.loop-m-init
loop-m-init g c = doubled-none

pub row_of_sixteen-requires : goal.row_of_sixteen-requires
row_of_sixteen-requires g c =
    let p = c.requires in
    let i = c.loop-m.m in
    let low : g.row.A ≤ i = omega arith in
    let high : i < g.row.Z = omega arith in
    let most : i < 16 = omega arith in
    (next-asks {v = 3} {k = g.row.Z} c.loop-m.invariant p.5 (lit≤ tt) low high most p.4 p.2 p.3, c.half_of_sixteen-p.ensures)

pub loop-m-preserved : goal.loop-m-preserved
loop-m-preserved g c = doubled-on c.loop-m.invariant (omega arith) (omega arith) c.row_of_sixteen.ensures

pub returns : goal.returns
returns g c =
    let e : c.loop-m.m ≡ g.row.Z = omega arith in
    subst (λ (i : ℕ). Doubled 16 g.row.A i c.args.b c.args.t.now c.args.w.now c.args.out.now c.loop-m.out) e c.loop-m.invariant
