-- `wht::find_bad` meets its contract: sixteen numbers are a block of four rows of four, and cell k is number k. Assumes nothing.
use mathlib.Core.Path.{ap}
use Prim.Native.Nat.{ℕ}
use native.Mathlib.Omega.{arith}
use lib.IntN.{pos}
use lib.ListN.{get_or}
use mir.Syntax.{w32}
use mir.ValLaws.{to_z-of_z}
use Rattle.whole.specs.Numbers.{in_range}
use Rattle.ranges.proofs.Finds.{finds-same}
use Rattle.wht.specs.Calls.{number_ok}
use Rattle.wht.proofs.find_bad.Goals as goal

pub returns : goal.returns
returns c =
    let s = c.before in
    finds-same _ (number_ok s.args.lo s.args.hi s.args.l.now) 16
    (λ k h. ap (λ (i : ℕ). in_range s.args.lo s.args.hi (get_or s.args.l.now i (pos 0))) (omega arith))
    c.find_outside.result
    (rw (to_z-of_z w32 s.args.lo s.ranges.lo, to_z-of_z w32 s.args.hi s.ranges.hi) at c.find_outside.ensures)
