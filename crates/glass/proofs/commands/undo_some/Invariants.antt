use Rattle.history.specs.Calls.{lent}
use Rattle.past.specs.Commands.{area_of}
use Rattle.past.proofs.Pasts.{Undoing}
use Rattle.glass.proofs.commands.undo_some.Given as goal

abbrev pub invariant-loop-i : goal.invariant-loop-i
invariant-loop-i g l = Undoing (area_of l.s l.initial.plane) (lent l.initial.plane l.initial.steps l.initial.levels l.initial.index) l._i (lent l.plane l.steps l.levels l.index)
