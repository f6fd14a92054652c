use Prim.Native.Nat.{◌+◌, ◌*◌, ◌-◌, ◌≤◌}
use lib.ListN.{get_or}
use Rattle.whole.specs.Grid.{grid_of}
use Rattle.whole.proofs.Lent.{Rewriting}
use Rattle.byteplanes.specs.Bytes.{byte_of}
use Rattle.byteplanes.proofs.block_rows.add_rows.Given as goal

abbrev pub invariant-loop-y : goal.invariant-loop-y
invariant-loop-y l = Rewriting 0 l.stride l.w (λ r x. byte_of (get_or l.initial.dst (r * l.stride + x) 0) (grid_of l.w l.work r x)) l.initial.dst l.dst l.y
