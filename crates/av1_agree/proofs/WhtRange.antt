-- From four numbers in -Y .. Y - 1 the inverse of four makes numbers in -2Y .. 2Y - 1. Assumes nothing.
-- Twice a number and one, `odd z`, has a range that is the same on both sides: z lies in -(b + 1) .. b exactly if the size of odd z is at most 2b + 1.
-- Four times a result, and two, is plus or minus the odd of each of the four numbers, and at most 2: what halving left over.
--     odd-in, odd-out      the range, both ways
--     Fits, back_fits      four numbers; the inverse of four doubles their range
--     quarter-fits         a number divided by 4
use mathlib.Core.Path.{◌≡◌, refl, sym, ap, ◌∙◌, subst}
use mathlib.Core.Bool.{true}
use mathlib.Core.List.{List, [], ◌∷◌}
use Prim.Native.Nat.{ℕ, zero, suc, ◌+◌, ◌-◌, ◌/◌, ◌%◌, ◌≤◌}
use native.Mathlib.Omega.{arith}
use borrow.Author.Tests.{leb-true, le-leb, lt-ltb}
use lib.Dec.{T, leb, lit≤}
use lib.IntN.{ℤ, pos, negsuc, nat_abs, ◌+ℤ◌, ◌-ℤ◌, +ℤ-neg_ℤ_cancel}
use Rattle.whole.specs.Numbers.{in_range, floor_div}
use Rattle.whole.proofs.Halves.{halved}
use Rattle.whole.proofs.Linear.{lin, agree}
use Rattle.whole.proofs.Machine.{Mx, var, ◌⊕◌, ◌⊖◌, val}
use Rattle.whole.proofs.Num.{Num, plus, minus}
use Rattle.whole.proofs.Tests.{both}
use Rattle.wht.specs.declared.blocks.Quad.{Quad}
use Rattle.wht.specs.Wht.{fore_sum, fore, swap, back}
use Rattle.wht.proofs.Butterfly.{sum, out0, out1, out2, out3}

abbrev pub odd : ℤ → ℤ
odd z = pos 1 +ℤ (z +ℤ z)

odd-neg : (n : ℕ) → nat_abs (odd (negsuc n)) ≡ n + n + 1
odd-neg n = rw (lt-ltb 1 (suc (suc (n + n))) (omega arith)) (omega arith)

pub odd-in : (b : ℕ) (z : ℤ) → in_range (negsuc b) (pos b) z ≡ true → nat_abs (odd z) ≤ b + b + 1
odd-in b (pos n) e = omega (arith, leb-true n b e)
odd-in b (negsuc n) e = omega (arith, odd-neg n, leb-true n b (both (leb n b) true e).0)

pub odd-out : (b : ℕ) (z : ℤ) → nat_abs (odd z) ≤ b + b + 1 → in_range (negsuc b) (pos b) z ≡ true
odd-out b (pos n) h = le-leb n b (omega (arith, h))
odd-out b (negsuc n) h = rw (le-leb n b (omega (arith, odd-neg n, h)))

-- ---- what halving left over
-- z is twice its half, or one more
halves : (z : ℤ) → (r : ℕ) × (r ≤ 1) × (z ≡ pos r +ℤ (floor_div z 2 +ℤ floor_div z 2))
halves (pos n) = (n % 2, omega arith, ap pos (omega arith))
halves (negsuc n) = (1 - n % 2, omega arith, sym (neg n (1 - n % 2) (omega arith) (omega arith)))
  where
    neg : (n r : ℕ) → r ≤ 1 → r + n % 2 ≡ 1 → pos r +ℤ (negsuc (n / 2) +ℤ negsuc (n / 2)) ≡ negsuc n
    neg n r h k = rw (lt-ltb r (suc (suc (n / 2 + n / 2))) (omega arith)) (ap negsuc (omega arith))

one_less : (r : ℕ) → r ≤ 1 → nat_abs (pos 1 -ℤ pos r) ≤ 1
one_less zero h = lit≤ tt
one_less (suc zero) h = lit≤ tt
one_less (suc (suc r)) h = absurd (omega arith)

left_one : (z : ℤ) → nat_abs (pos 1 -ℤ (z -ℤ (floor_div z 2 +ℤ floor_div z 2))) ≤ 1
left_one z =
    let h = halves z in
    let w = floor_div z 2 +ℤ floor_div z 2 in
    subst (λ (y : ℤ). nat_abs (pos 1 -ℤ y) ≤ 1) (sym (ap (λ y. y -ℤ w) h.2 ∙ +ℤ-neg_ℤ_cancel (pos h.0) w)) (one_less h.0 h.1)

-- ---- four numbers
pub record Fits (b : ℕ) (o : Quad) : Type 0 where
  pub f0 : nat_abs (odd o.0) ≤ b + b + 1
  pub f1 : nat_abs (odd o.1) ≤ b + b + 1
  pub f2 : nat_abs (odd o.2) ≤ b + b + 1
  pub f3 : nat_abs (odd o.3) ≤ b + b + 1

sized : (z : ℤ) {B : ℕ} → nat_abs z ≤ B → Num z z B
sized z h = record { is = refl; size = h }

-- over the four numbers, their half and 1
abbrev odd_of : Mx → Mx
odd_of x = var 5 ⊕ (x ⊕ x)

abbrev less : Mx
less = var 5 ⊖ (sum ⊖ (var 4 ⊕ var 4))

module _ {b : ℕ} {o : Quad} (s : Fits b o) where
  abbrev xs : List ℤ
  xs = o.0 ∷ o.1 ∷ o.2 ∷ o.3 ∷ floor_div (fore_sum o) 2 ∷ pos 1 ∷ []

  abbrev B : ℕ
  B = b + b + 1

  -- a result x, by twice its odd
  bounded : (x y : Mx) → T (agree (odd_of x ⊕ odd_of x) y) → {z : ℤ} → Num (val y xs) z (B + B + B + B + (1 + 1)) → nat_abs (val (odd_of x) xs) ≤ B + B + 1
  bounded x y t n = halved (B + B + 1) (val (odd_of x) xs) (lin (odd_of x ⊕ odd_of x) y xs t ∙ n.is) (omega (arith, n.size))

  fore-fits : Fits (b + b + 1) (fore o)
  unfolding fore
  fore-fits =
      let p = sized (odd o.0) s.f0 in
      let q = sized (odd o.1) s.f1 in
      let r = sized (odd o.2) s.f2 in
      let u = sized (odd o.3) s.f3 in
      let l = sized (val less xs) (left_one (fore_sum o)) in
      let w = plus l l in
      record {
        f0 = bounded (out0 (var 4)) (odd_of (var 0) ⊕ odd_of (var 1) ⊕ odd_of (var 2) ⊕ odd_of (var 3) ⊖ (less ⊕ less)) tt (minus (plus (plus (plus p q) r) u) w);
        f1 = bounded (out1 (var 4)) (odd_of (var 0) ⊕ odd_of (var 1) ⊖ odd_of (var 2) ⊖ odd_of (var 3) ⊕ (less ⊕ less)) tt (plus (minus (minus (plus p q) r) u) w);
        f2 = bounded (out2 (var 4)) (odd_of (var 0) ⊖ odd_of (var 1) ⊖ odd_of (var 2) ⊕ odd_of (var 3) ⊕ (less ⊕ less)) tt (plus (plus (minus (minus p q) r) u) w);
        f3 = bounded (out3 (var 4)) (odd_of (var 0) ⊖ odd_of (var 1) ⊕ odd_of (var 2) ⊖ odd_of (var 3) ⊕ (less ⊕ less)) tt (plus (minus (plus (minus p q) r) u) w);
      }

swap-fits : {b : ℕ} {o : Quad} → Fits b o → Fits b (swap o)
swap-fits s = record { f0 = s.f0; f1 = s.f1; f2 = s.f3; f3 = s.f2 }

pub back_fits : {b : ℕ} {o : Quad} → Fits b o → Fits (b + b + 1) (back o)
back_fits s = swap-fits (fore-fits (swap-fits s))

pub quarter-fits : (b : ℕ) (z : ℤ) → nat_abs (odd z) ≤ b + b + b + b + 3 + (b + b + b + b + 3) + 1 → nat_abs (odd (floor_div z 4)) ≤ b + b + 1
quarter-fits b (pos n) h = omega (arith, h)
quarter-fits b (negsuc n) h = omega (arith, h, odd-neg n, odd-neg (n / 4))
