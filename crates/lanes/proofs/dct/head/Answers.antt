-- `lanes::dct::head` meets its contract: in each arm the length is known. Assumes nothing.
use mathlib.Core.Path.{◌≡◌, sym, subst}
use Prim.Native.Nat.{ℕ}
use native.Mathlib.Omega.{arith}
use lib.ListN.{take}
use Rattle.whole.specs.Sums.{dense_c}
use Rattle.whole.specs.Lanes.{col}
use Rattle.tables.specs.Dense.{dct_table}
use Rattle.lanes.proofs.dct.head.Goals as goal

pub returns-in-8 : goal.returns-in-8
returns-in-8 g c k = let at = g.L.Lanes.lane in subst (λ (n : ℕ). take n (col at k c.g_head.new.e) ≡ dense_c n (dct_table n) (col at k c.args.c.now)) (sym c.in-8.is) (c.g_head.ensures k)

pub returns-in-16 : goal.returns-in-16
returns-in-16 g c k = let at = g.L.Lanes.lane in subst (λ (n : ℕ). take n (col at k c.g_head-in-16.new.e) ≡ dense_c n (dct_table n) (col at k c.args.c.now)) (sym c.in-16.is) (c.g_head-in-16.ensures k)

pub returns-in_default : goal.returns-in_default
returns-in_default g c k =
    let at = g.L.Lanes.lane in
    let e : c.args.n ≡ 32 = omega (arith, c.requires.0) in
    subst (λ (n : ℕ). take n (col at k c.g_head-in_default.new.e) ≡ dense_c n (dct_table n) (col at k c.args.c.now)) (sym e) (c.g_head-in_default.ensures k)
