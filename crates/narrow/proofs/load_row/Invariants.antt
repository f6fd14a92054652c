use Rattle.std.proofs.Common.{◌+◌, ◌*◌, pos, length, get_or}
use Rattle.whole.proofs.Fill.{Filling}
use Rattle.passes.specs.Passes.{entry}
use Rattle.narrow.proofs.load_row.Given as goal

abbrev pub invariant-loop-l : goal.invariant-loop-l
invariant-loop-l l = Filling (pos 0) (length l.initial.row) (λ k. entry l.scale 8 (get_or l.coeff (l.base + k * l.step) (pos 0))) l.row l.l
