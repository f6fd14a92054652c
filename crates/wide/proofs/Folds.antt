-- Numbers that are sums in their first half and differences, from the end, in their second. Assumes nothing.
--     folded        sums and differences of two dense products are one dense product
--     all_small     sums and differences are within the sum of the sizes
use mathlib.Core.Path.{◌≡◌, refl, sym, ap, ◌∙◌, subst}
use mathlib.Core.Bool.{Bool, true, false, cond}
use mathlib.Core.List.{List}
use Prim.Native.Nat.{ℕ, ◌+◌, ◌-◌, ◌≤◌, ◌<◌}
use native.Mathlib.Nat as N
use native.Mathlib.Omega.{arith}
use borrow.Author.Tests.{ltb-true, ltb-false}
use lib.Dec.{ltb}
use lib.IntN.{ℤ, nat_abs, ◌+ℤ◌, ◌-ℤ◌}
use Rattle.whole.specs.Sums.{tab, dot_z, fold_row, ◌+ʳ◌, negʳ}
use Rattle.whole.proofs.Size.{abs-add, abs-sub}
use Rattle.whole.proofs.Sums.{dot-add, dot-neg}
use Rattle.whole.proofs.Fill.{tab-same}

module _ (h : ℕ) (A B : ℕ → List ℤ) (xs : List ℤ) (f : ℕ → ℤ) (up : (r : ℕ) → r < h → f r ≡ dot_z (A r) xs +ℤ dot_z (B r) xs) (down : (r : ℕ) → r < h → f (h + h - 1 - r) ≡ dot_z (A r) xs -ℤ dot_z (B r) xs) where
  pub folded : tab (h + h) f ≡ tab (h + h) (λ k. dot_z (fold_row h A B k) xs)
  folded = tab-same (h + h) f (λ k. dot_z (fold_row h A B k) xs) (λ k l. go k l (ltb k h) refl)
    where
      twice : (k : ℕ) → k < h + h → h ≤ k → h + h - 1 - (h + h - 1 - k) ≡ k
      twice k l q = omega arith

      go : (k : ℕ) → k < h + h → (b : Bool) → ltb k h ≡ b → f k ≡ dot_z (cond b (A k +ʳ B k) (A (h + h - 1 - k) +ʳ negʳ (B (h + h - 1 - k)))) xs
      go k l true e = up k (ltb-true k h e) ∙ sym (dot-add (A k) (B k) xs)
      go k l false e =
          ap f (sym (twice k l (ltb-false k h e))) ∙ down (h + h - 1 - k) (omega (arith, ltb-false k h e))
          ∙ ap (λ z. dot_z (A (h + h - 1 - k)) xs +ℤ z) (sym (dot-neg (B (h + h - 1 - k)) xs)) ∙ sym (dot-add (A (h + h - 1 - k)) (negʳ (B (h + h - 1 - k))) xs)

module _ (h B : ℕ) (f g o : ℕ → ℤ) (small : (r : ℕ) → r < h → nat_abs (g r) + nat_abs (o r) ≤ B) (up : (r : ℕ) → r < h → f r ≡ g r +ℤ o r) (down : (r : ℕ) → r < h → f (h + h - 1 - r) ≡ g r -ℤ o r) where
  pub all_small : (k : ℕ) → k < h + h → nat_abs (f k) ≤ B
  all_small k l = go (ltb k h) refl
    where
      twice : h ≤ k → h + h - 1 - (h + h - 1 - k) ≡ k
      twice q = omega arith

      go : (b : Bool) → ltb k h ≡ b → nat_abs (f k) ≤ B
      go true e = let y = ltb-true k h e in subst (λ (z : ℤ). nat_abs z ≤ B) (sym (up k y)) (N.le_trans (abs-add (g k) (o k)) (small k y))
      go false e =
          let y : h + h - 1 - k < h = omega (arith, ltb-false k h e) in
          subst (λ (z : ℤ). nat_abs z ≤ B) (sym (down (h + h - 1 - k) y) ∙ ap f (twice (ltb-false k h e))) (N.le_trans (abs-sub (g (h + h - 1 - k)) (o (h + h - 1 - k))) (small (h + h - 1 - k) y))
