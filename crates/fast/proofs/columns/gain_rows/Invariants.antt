use lib.IntN.{pos}
use Rattle.wide_rows.specs.Lines.{line}
use Rattle.narrow.specs.Painted.{Painted}
use Rattle.fast.specs.Gains.{residual_by, gains_of}
use Rattle.fast.proofs.columns.gain_rows.Given as goal

abbrev pub invariant-loop-y : goal.invariant-loop-y
invariant-loop-y l = Painted (pos 0) l.from l.stride l.w l.y (gains_of l.initial.dst l.from l.stride (residual_by l.shift l.across l.down (λ r x. line l.out x r))) l.initial.dst l.dst
