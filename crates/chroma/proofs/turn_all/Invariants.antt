use lib.IntN.{pos}
use Rattle.whole.specs.Sums.{item}
use Rattle.whole.proofs.Fill.{InPlace}
use Rattle.chroma.specs.Chroma.{turn_u, turn_v}
use Rattle.chroma.proofs.turn_all.Given as goal

abbrev pub invariant-loop-i : goal.invariant-loop-i
invariant-loop-i l = InPlace (pos 0) l.initial.u (λ k. turn_u l.lo l.hi l.sina l.cosa (item l.initial.u k) (item l.initial.v k)) l.u l.i
    × InPlace (pos 0) l.initial.v (λ k. turn_v l.lo l.hi l.sina l.cosa (item l.initial.u k) (item l.initial.v k)) l.v l.i
