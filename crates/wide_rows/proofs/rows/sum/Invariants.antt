use Rattle.std.proofs.Common.{◌≡◌, ◌*◌, ◌^◌, ◌≤◌, nat_abs, take}
use Rattle.whole.specs.Sums.{dot_z}
use Rattle.wide_rows.specs.Lines.{taps}
use Rattle.wide_rows.proofs.rows.sum.Given as goal

abbrev pub invariant-loop-j : goal.invariant-loop-j
invariant-loop-j g l = record { is : l.s ≡ dot_z (take l.j l.k) (taps g.row.N l.i l.d l.w); small : nat_abs l.s ≤ l.j * 2 ^ 22 }
