use Rattle.wide_rows.specs.Lines.{line}
use Rattle.narrow.specs.Painted.{Painted}
use Rattle.quick_bytes.specs.Held.{reached_of}
use Rattle.quick_bytes.proofs.columns.gain_rows.Given as goal

abbrev pub invariant-loop-y : goal.invariant-loop-y
invariant-loop-y l = Painted 0 l.from l.stride l.w l.y (reached_of l.initial.dst l.from l.stride l.shift (λ r x. line l.res x r)) l.initial.dst l.dst
