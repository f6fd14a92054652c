use Rattle.wide_rows.specs.Lines.{Doubled}
use Rattle.wide.proofs.long.grow.Given as goal

abbrev pub invariant-loop-m : goal.invariant-loop-m
invariant-loop-m g l = Doubled 16 g.row.A l.m l.b l.t l.w l.initial.out l.out
