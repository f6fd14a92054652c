use mathlib.Core.Path.{◌≡◌}
use Rattle.remain.specs.Remaining.{found}
use Rattle.remain.proofs.words.found.Given as goal

abbrev pub invariant-loop-i : goal.invariant-loop-i
invariant-loop-i l = found l.s l.number l.n ≡ found l.s l.number l.i
