use Rattle.std.proofs.Common.{◌+◌, ◌*◌, pos, length, get_or}
use Rattle.whole.proofs.Fill.{Filling}
use Rattle.passes.specs.Passes.{settled_to}
use Rattle.narrow.proofs.turn_row.Given as goal

abbrev pub invariant-loop-m : goal.invariant-loop-m
invariant-loop-m l = Filling (pos 0) (length l.initial.row) (λ k. settled_to 15 l.shift (get_or l.out (l.p + k * 16) (pos 0))) l.row l.m
