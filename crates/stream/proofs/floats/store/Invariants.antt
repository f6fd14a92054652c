use lib.Ieee.{nan}
use lib.IntN.{pos}
use lib.ListN.{get_or}
use mir.Syntax.{w32}
use mir.Val.{to_z, of_z}
use Rattle.whole.proofs.Fill.{InPlace}
use Rattle.stream.specs.Floats.{bits_of}
use Rattle.stream.proofs.floats.store.Given as goal

abbrev pub invariant-loop-i : goal.invariant-loop-i
invariant-loop-i l = InPlace (pos 0) l.initial.bits (λ k. to_z w32 (bits_of (get_or l.list k nan) (of_z w32 (get_or l.initial.bits k (pos 0))))) l.bits l.i
