-- What a verdict of Done tells of the sixteen numbers. Assumes nothing.
--     Accepted, accepted    the bits, the count, and a bound on each number
--     divided-small         the numbers divided by 4 are what the transform takes
use mathlib.Core.Path.{◌≡◌, subst}
use mathlib.Core.Bool.{◌&&◌}
use mathlib.Core.List.{List}
use Prim.Native.Nat.{ℕ, ◌^◌, ◌≤◌, ◌<◌}
use native.Mathlib.Omega.{arith}
use borrow.Author.Tests.{leb-true, eqb-true}
use lib.Dec.{eqb, leb}
use lib.IntN.{ℤ, pos, negsuc, nat_abs}
use lib.ListN.{length}
use Rattle.whole.specs.Numbers.{floor_div}
use Rattle.whole.specs.Search.{seek}
use Rattle.whole.specs.Sums.{Within, item}
use Rattle.whole.proofs.Fill.{length-tab, within-tab}
use Rattle.whole.proofs.Range.{in-range-size}
use Rattle.whole.proofs.Search.{seek-passed}
use Rattle.whole.proofs.Sums.{within_all}
use Rattle.whole.proofs.Tests.{both}
use Rattle.answers.proofs.Verdicts.{passed, search-passed}
use Rattle.wht.specs.Calls.{Sixteen}
use Rattle.av1.specs.Calls.{low, high, number_ok}
use Rattle.av1.proofs.Accepted.{low-size, high-size}
use Rattle.av1_wht.specs.Wht.{quarters, wht_verdict}

pub record Accepted (bits : ℕ) (t : List ℤ) : Type 0 where
  pub least : 16 ≤ bits
  pub most : bits ≤ 20
  pub long : length t ≡ 16
  pub small : Within (2 ^ 19) t

pub accepted : (bits : ℕ) (t : List ℤ) → (wht_verdict bits t).number ≡ 0 → Accepted bits t
unfolding wht_verdict
accepted bits t e =
    let p₁ = passed (leb 16 bits && leb bits 20) 0 0 0 _ e in
    let p₃ = passed (eqb (length t) 16) 5 1 0 _ p₁.1 in
    let p₄ = search-passed 14 0 16 (λ k. k) (seek (number_ok (low bits) (high bits) t) 0 16) _ p₃.1 in
    let b = both (leb 16 bits) (leb bits 20) p₁.0 in
    let most = leb-true bits 20 b.1 in
    let long = eqb-true (length t) 16 p₃.0 in
    record {
      least = leb-true 16 bits b.0;
      most = most;
      long = long;
      small = λ k h. in-range-size (2 ^ 19) (low bits) (high bits) (item t k) (low-size bits most) (high-size bits most) (seek-passed (number_ok (low bits) (high bits) t) 16 p₄.0 k (subst (λ (m : ℕ). k < m) long h));
    }

divided-size : (z : ℤ) → nat_abs z ≤ 524288 → nat_abs (floor_div z 4) ≤ 262144
divided-size (pos n) h = omega arith
divided-size (negsuc n) h = omega arith

pub divided-small : (t : List ℤ) → Within (2 ^ 19) t → Sixteen 262144 (quarters t)
divided-small t h =
    record {
      count = length-tab 16 (λ i. floor_div (item t i) 4);
      small = within-tab 262144 16 (λ i. floor_div (item t i) 4) (λ i l. divided-size (item t i) (within_all (2 ^ 19) t h i));
    }
