use mathlib.Core.Path.{◌≡◌}
use mathlib.Core.Bool.{true}
use Rattle.remain.specs.Remaining.{entries}
use Rattle.folding.specs.Pass.{pass_fair}
use Rattle.folding.specs.Owners.{Owned}
use Rattle.folding_code.proofs.fold.owners.Given as goal

abbrev pub invariant-loop-i : goal.invariant-loop-i
invariant-loop-i l = Owned l.s l.l l.o l.i × (pass_fair (entries l.s l.l l.i) ≡ true)
