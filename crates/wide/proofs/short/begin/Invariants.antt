use Rattle.std.proofs.Common.{◌+◌}
use Rattle.wide_rows.specs.Lines.{Begun}
use Rattle.wide.proofs.short.begin.Given as goal

abbrev pub invariant-loop-m : goal.invariant-loop-m
invariant-loop-m g l = Begun (g.row.H + g.row.H) l.d g.row.H l.m l.t l.w l.initial.out l.out
