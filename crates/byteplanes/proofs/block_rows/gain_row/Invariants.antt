use Prim.Native.Nat.{◌-◌}
use lib.IntN.{pos}
use lib.ListN.{length, get_or}
use Rattle.whole.proofs.Fill.{InPlace}
use Rattle.byteplanes.specs.Bytes.{byte_of}
use Rattle.byteplanes.proofs.block_rows.gain_row.Given as goal

abbrev pub invariant-loop-x : goal.invariant-loop-x
invariant-loop-x l = InPlace 0 l.initial.row (λ k. byte_of (get_or l.initial.row k 0) (get_or l.e k (pos 0))) l.row l.x
