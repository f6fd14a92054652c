-- Samples and what they gain, as the machine adds them. Assumes nothing.
--     rows_end       rows 0 to 3 of a block end within n where the last does
--     cell_lies      the block's cells lie in the plane
--     sample-size    a sample is at most 4,095
--     total          a sample and its number: the sum fits, and is their sum
--     change-size    what the samples gain in a step or an undo: sixteen numbers of size at most 1,048,576
use mathlib.Core.Path.{◌≡◌, sym, ap, ◌∙◌, subst}
use mathlib.Core.Bool.{Bool, true, false}
use mathlib.Core.List.{List}
use Prim.Native.Nat.{ℕ, ◌+◌, ◌*◌, ◌^◌, ◌≤◌, ◌<◌}
use native.Mathlib.Nat as N
use native.Mathlib.Omega.{arith}
use lib.Dec.{lit<, lit≤}
use lib.IntN.{ℤ, pos, neg_ℤ, nat_abs, ◌+ℤ◌}
use lib.Pow.{pow_mono}
use lib.ListN.{length-map, get_or-map}
use mir.Syntax.{w32}
use mir.Val.{to_z, of_z}
use Rattle.whole.specs.Sums.{item}
use Rattle.whole.specs.Numbers.{highest}
use Rattle.whole.specs.Search.{cell_at}
use Rattle.whole.proofs.Cells.{cell-inside}
use Rattle.whole.proofs.Num.{Num, made, plus}
use Rattle.whole.proofs.Range.{in-range-size}
use Rattle.whole.proofs.Size.{abs_neg}
use Rattle.wht.specs.Calls.{Sixteen}
use Rattle.wht.specs.Wht.{iwht}
use Rattle.wht.proofs.Lists.{residuals-bound}
use Rattle.lossless.specs.Step.{sample}
use Rattle.lossless.specs.Bounds.{Addable, change}

pub rows_end : (start stride n : ℕ) → start + 3 * stride + 4 ≤ n → (r : ℕ) → r < 4 → start + r * stride + 4 ≤ n
rows_end start stride n h r l = omega (arith, N.mul-le-mul_right stride (N.le_of_suc-le-suc l))

pub cell_lies : (start stride n : ℕ) → start + 3 * stride + 4 ≤ n → (k : ℕ) → k < 16 → cell_at start stride 4 k < n
cell_lies start stride n h k l = cell-inside 4 4 k l start stride n (rows_end start stride n h)

pub sample-size : (depth : ℕ) (z : ℤ) → depth ≤ 12 → sample depth z ≡ true → nat_abs z ≤ 4095
sample-size depth z h e = in-range-size 4095 (pos 0) (highest depth) z (lit≤ tt) (let m : 2 ^ depth ≤ 4096 = pow_mono h in omega arith) e

module _ {p : List ℤ} {start stride : ℕ} {g : List ℤ} (a : Addable p start stride g) (k : ℕ) (h : k < 16) where
  -- x is the sample as it was found
  pub total : {x : ℤ} → x ≡ item p (cell_at start stride 4 k)
      → Num (to_z w32 (of_z w32 x) +ℤ to_z w32 (of_z w32 (item g k))) (item p (cell_at start stride 4 k) +ℤ item g k) (4095 + 1048576)
  total {x} e =
      let b : Num (to_z w32 (of_z w32 (item g k))) (item g k) 1048576 = made w32 (a.gains.small k (subst (λ (n : ℕ). k < n) (sym a.gains.count) h)) (lit< tt) in
      rw e (plus (made w32 {z = item p (cell_at start stride 4 k)} (a.small k h) (lit< tt)) b)

pub change-size : (u : Bool) {l : List ℤ} → Sixteen 262144 l → Sixteen 1048576 (change u l)
change-size false s = residuals-bound s
change-size true {l} s =
    let r = residuals-bound s in
    record {
      count = length-map (iwht l) neg_ℤ ∙ r.count;
      small = λ k h.
          subst (λ (n : ℕ). n ≤ 1048576) (sym (ap nat_abs (get_or-map neg_ℤ (iwht l) k (pos 0)) ∙ abs_neg (item (iwht l) k)))
          (r.small k (subst (λ (n : ℕ). k < n) (length-map (iwht l) neg_ℤ) h));
    }
