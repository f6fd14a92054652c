-- `av1_wht::divided` meets its contract: the loop fills the places with the numbers divided by 4. Assumes nothing.
use mathlib.Core.List.{List}
use Prim.Native.Nat.{ℕ, ◌^◌}
use native.Mathlib.Omega.{arith}
use lib.Dec.{lit<}
use lib.IntN.{ℤ}
use lib.Signed.{shr_z}
use mir.Syntax.{w32}
use mir.Val.{to_z, of_z}
use Rattle.whole.specs.Numbers.{floor_div}
use Rattle.whole.specs.Sums.{Within, item}
use Rattle.whole.proofs.Fill.{fill_start, fill_more, fill_done}
use Rattle.whole.proofs.Num.{Num, made, shifted, read}
use Rattle.whole.proofs.Sums.{within_all}
use Rattle.av1_wht.proofs.divided.Goals as goal

abbrev M : ℤ → ℤ
M z = to_z w32 (of_z w32 z)

shr : (t : List ℤ) → Within (2 ^ 19) t → (i : ℕ) → Num (M (shr_z (M (item t i)) 4)) (floor_div (item t i) 4) 524288
shr t h i =
    let x : Num (M (item t i)) (item t i) 524288 = made w32 (within_all (2 ^ 19) t h i) (lit< tt) in
    read (shifted x 4) w32 (lit< tt)

pub loop-i-init : goal.loop-i-init
loop-i-init c = fill_start c.requires.0

pub loop-i-preserved : goal.loop-i-preserved
loop-i-preserved c =
    fill_more c.loop-i.invariant (omega (arith, c.requires.0)) (shr c.args.t.now c.requires.2 c.loop-i.i).is

pub returns : goal.returns
returns c = fill_done c.loop-i.invariant (omega (arith, c.requires.0))
