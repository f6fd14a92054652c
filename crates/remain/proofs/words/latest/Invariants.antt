use mathlib.Core.Path.{◌≡◌}
use Rattle.remain.specs.Touch.{latest}
use Rattle.remain.proofs.words.latest.Given as goal

abbrev pub invariant-loop-i : goal.invariant-loop-i
invariant-loop-i l = latest l.s l.row l.column l.n ≡ latest l.s l.row l.column l.i
