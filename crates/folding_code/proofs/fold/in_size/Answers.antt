-- `folding_code::fold::in_size` meets its contract: both ends of the range. Assumes nothing.
use mathlib.Core.Path.{◌≡◌, sym, ap, ◌∙◌, subst}
use Prim.Native.Nat.{◌+◌, ◌^◌, ◌≤◌}
use native.Mathlib.Omega.{arith}
use lib.Dec.{leb, lit<}
use lib.IntN.{ℤ, pos, neg_ℤ, nat_abs, ◌-ℤ◌, +ℤ_idl}
use lib.Pow.{pow_mono}
use mir.Syntax.{w32}
use mir.Val.{to_z, of_z}
use Rattle.whole.specs.Numbers.{highest}
use Rattle.whole.specs.Search.{seek}
use Rattle.whole.proofs.Num.{Num, lit, made, minus, ask, read}
use Rattle.wht.specs.Calls.{number_ok}
use Rattle.wht.proofs.Lists.{passes-by}
use Rattle.folding_code.proofs.fold.in_size.Goals as goal
use Rattle.folding_code.proofs.fold.in_size.Lts as lts
use Rattle.folding_code.proofs.fold.in_size.Reads as reads
use Rattle.folding_code.proofs.fold.in_size.Tie as tie

abbrev After-high_end-hi : Type 0
After-high_end-hi = lts.After-high_end tie.the-claims reads.Pre reads.Post

module _ (c : After-high_end-hi) where
  size : nat_abs c.high_end-hi.result ≤ 4095
  size =
      let m : 2 ^ c.args.depth ≤ 4096 = pow_mono c.requires.0 in
      subst (λ (z : ℤ). nat_abs z ≤ 4095) (sym c.high_end-hi.ensures) (omega arith)

  low : Num (to_z w32 (of_z w32 (pos 0)) -ℤ to_z w32 (of_z w32 c.high_end-hi.result)) (pos 0 -ℤ c.high_end-hi.result) (0 + 4095)
  low = minus (lit (pos 0)) (made w32 {z = c.high_end-hi.result} size (lit< tt))

  low-is : to_z w32 (of_z w32 (to_z w32 (of_z w32 (pos 0)) -ℤ to_z w32 (of_z w32 c.high_end-hi.result))) ≡ neg_ℤ (highest c.args.depth)
  low-is = (read low w32 (lit< tt)).is ∙ +ℤ_idl (neg_ℤ c.high_end-hi.result) ∙ ap neg_ℤ c.high_end-hi.ensures

  high_is : to_z w32 (of_z w32 c.high_end-hi.result) ≡ highest c.args.depth
  high_is = (made w32 {z = c.high_end-hi.result} size (lit< tt)).is ∙ c.high_end-hi.ensures

pub overflow_sub-lo : goal.overflow_sub-lo
overflow_sub-lo c = ask (low c) w32 (lit< tt)

pub returns : goal.returns
returns c =
    passes-by _ 16 c.find_bad.result c.find_bad.ensures c.is_none.ensures
    ∙ ap (leb 16) (λ t. seek (number_ok (low-is c.before.before.before t) (high_is c.before.before.before t) c.args.g.now) 0 16)
