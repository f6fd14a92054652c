use lib.IntN.{pos}
use Rattle.wide_rows.specs.Lines.{line}
use Rattle.narrow.specs.Painted.{Painted}
use Rattle.fast.specs.Gains.{residual_by, gains_of}
use Rattle.pixels.specs.Pixels.{pixel_f}
use Rattle.quick.proofs.filling.fill_rows.Given as goal

abbrev pub invariant-loop-y : goal.invariant-loop-y
invariant-loop-y l = Painted (pixel_f (pos 0)) l.from l.stride l.w l.y (λ y x. pixel_f (gains_of l.pred l.from l.stride (residual_by l.shift l.across l.down (λ r x. line l.res x r)) y x)) l.initial.out l.out
