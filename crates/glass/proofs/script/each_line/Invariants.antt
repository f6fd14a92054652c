use Rattle.past.specs.Commands.{Held}
use Rattle.glass.proofs.script.each_line.Given as goal

abbrev pub invariant-loop-line : goal.invariant-loop-line
invariant-loop-line g l = Held l.s l.room l.steps l.levels l.index
