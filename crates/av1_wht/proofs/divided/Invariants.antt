use lib.IntN.{pos}
use Rattle.whole.specs.Numbers.{floor_div}
use Rattle.whole.specs.Sums.{item}
use Rattle.whole.proofs.Fill.{Filling}
use Rattle.av1_wht.proofs.divided.Given as goal

abbrev pub invariant-loop-i : goal.invariant-loop-i
invariant-loop-i l = Filling (pos 0) 16 (λ k. floor_div (item l.t k) 4) l.w l.i
