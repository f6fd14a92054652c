use mathlib.Core.Path.{◌≡◌}
use Rattle.folding.specs.Owners.{owner, partner}
use Rattle.folding_code.proofs.fold.partner.Given as goal

abbrev pub invariant-loop-i : goal.invariant-loop-i
invariant-loop-i l = partner (owner l.o) l.s l.row l.column l.n ≡ partner (owner l.o) l.s l.row l.column l.i
