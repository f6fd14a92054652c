-- `lanes::dct::first_four` meets its contract: one output is the first input times 64, and the odd halves of 2 and 4 are joined to it. Assumes nothing.
use mathlib.Core.Path.{◌≡◌, refl, sym, ap, ◌∙◌, subst}
use mathlib.Core.List.{List}
use Prim.Native.Nat.{ℕ, ◌+◌, ◌^◌, ◌≤◌, ◌<◌}
use native.Mathlib.Nat as N
use native.Mathlib.Omega.{arith}
use lib.Dec.{lit<, lit≤}
use lib.IntN.{ℤ, pos, nat_abs, ◌*ℤ◌}
use lib.ListN.{length, get_or, set, take, length-set}
use Rattle.whole.specs.Sums.{fold_row}
use Rattle.whole.specs.Lanes.{col}
use Rattle.whole.specs.Parts.{joined}
use Rattle.whole.proofs.Sums.{within_all}
use Rattle.whole.proofs.Butterfly.{Holds}
use Rattle.whole.proofs.Parts.{join-room, join-holds}
use Rattle.lanes.specs.Halves.{first_row, odd_row, odds_of, half2, half4, Quarter}
use Rattle.lanes.proofs.Columns.{col-read}
use Rattle.lanes.proofs.Headed.{prod-fits}
use Rattle.lanes.proofs.Odds.{odd-holds, one-held, quarter-ok}
use Rattle.lanes.proofs.dct.first_four.Goals as goal

-- the first output, and two
module _ {R : Type 0} (at : R → ℕ → ℤ) (d : ℕ) (cs es : List R) (q : Quarter d (length cs)) (h : 4 ≤ length es) (x r : R) (ex : x ≡ get_or cs 0 x) (er : (k : ℕ) → at r k ≡ at x k *ℤ pos 64) where
  some : 0 < length cs
  some = omega (arith, (quarter-ok q).two.inside 0 (lit< tt))

  input : (k : ℕ) → at x k ≡ get_or (col at k cs) 0 (pos 0)
  input = col-read at cs some ex

  is1 : (k : ℕ) → Holds 1 first_row (col at k cs) (take 1 (col at k (set es 0 r)))
  is1 k = one-held at es r (col at k cs) k (N.le_trans (lit≤ tt) h) (er k ∙ ap (λ z. z *ℤ pos 64) (input k))

  is2 : (fs : List R) → ((k : ℕ) → take 2 (col at k fs) ≡ joined 1 (take 1 (col at k (set es 0 r))) (odds_of 1 half2 (d + d) (col at k cs)))
      → (k : ℕ) → Holds 2 (fold_row 1 first_row (odd_row 1 half2 (d + d))) (col at k cs) (take 2 (col at k fs))
  is2 fs f k = join-holds (is1 k) (odd-holds 1 half2 (d + d) (col at k cs)) (f k)

pub mul_n-requires : goal.mul_n-requires
mul_n-requires g c k =
    let at = g.L.Lanes.lane in
    let i : at c.index-c-0.result k ≡ get_or (col at k c.args.c.now) 0 (pos 0) = col-read at c.args.c.now (omega (arith, (quarter-ok c.requires.0).two.inside 0 (lit< tt))) c.index-c-0.is k in
    prod-fits (at c.index-c-0.result k) (pos 64) (subst (λ (z : ℤ). nat_abs z ≤ 2 ^ 19) (sym i) (within_all (2 ^ 19) (col at k c.args.c.now) (c.requires.2 k) 0)) (lit≤ tt) refl

pub overflow_add-d : goal.overflow_add-d
overflow_add-d g c = omega (arith, (quarter-ok c.requires.0).four.inside 0 (lit< tt), (quarter-ok c.requires.0).four.inside 1 (lit< tt))

pub grow-requires : goal.grow-requires
grow-requires g c =
    let at = g.L.Lanes.lane in
    let q = quarter-ok c.requires.0 in record {
      odd_half = (q.two, omega (arith, c.requires.1, length-set c.args.e.now 0 c.mul_n.result), c.requires.2);
      by_index = λ k. join-room (is1 at c.args.d c.args.c.now c.args.e.now c.requires.0 c.requires.1 c.index-c-0.result c.mul_n.result c.index-c-0.is c.mul_n.ensures k) (odd-holds 1 half2 (c.args.d + c.args.d) (col at k c.args.c.now)) (c.requires.2 k) q.fits2;
    }

pub grow-requires-2 : goal.grow-requires-2
grow-requires-2 g c =
    let at = g.L.Lanes.lane in
    let q = quarter-ok c.requires.0 in record {
      odd_half = (q.four, omega (arith, c.requires.1, length-set c.args.e.now 0 c.mul_n.result, c.grow.auto.e), c.requires.2);
      by_index = λ k. join-room (is2 at c.args.d c.args.c.now c.args.e.now c.requires.0 c.requires.1 c.index-c-0.result c.mul_n.result c.index-c-0.is c.mul_n.ensures c.grow.new.e c.grow.ensures k) (odd-holds 2 half4 c.args.d (col at k c.args.c.now)) (c.requires.2 k) q.fits4;
    }

pub returns : goal.returns
returns g c k =
    let at = g.L.Lanes.lane in
    (join-holds (is2 at c.args.d c.args.c.now c.args.e.now c.requires.0 c.requires.1 c.index-c-0.result c.mul_n.result c.index-c-0.is c.mul_n.ensures c.grow.new.e c.grow.ensures k) (odd-holds 2 half4 c.args.d (col at k c.args.c.now)) (c.grow-2.ensures k)).is
