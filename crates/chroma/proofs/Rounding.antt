-- The shift that divides by 256 with halves away from zero: 127 is added to a negative number, 128 to any other. Assumes nothing.
--     round-neg, round-pos     the shift is `round256`, by the sign
use mathlib.Core.Path.{◌≡◌, refl, sym, ap, ◌∙◌, subst}
use mathlib.Core.Bool.{true, false}
use Prim.Native.Nat.{ℕ, suc, ◌+◌, ◌-◌, ◌/◌, ◌≤◌, ◌<◌}
use native.Mathlib.Nat.{not-suc-le-zero}
use native.Mathlib.Omega.{arith}
use lib.Dec.{T, ltb, ltb→lt, nltb→le}
use lib.IntN.{ℤ, pos, negsuc, neg_ℤ, ◌+ℤ◌}
use lib.Signed.{lt_z}
use Rattle.whole.specs.Numbers.{floor_div}
use Rattle.whole.proofs.Tests.{cond-case}
use Rattle.chroma.specs.Chroma.{round256}

pub round-neg : (a : ℤ) → lt_z a (pos 0) ≡ true → floor_div (a +ℤ pos 127) 256 ≡ round256 a
unfolding round256
round-neg (pos n) h = absurd (not-suc-le-zero (ltb→lt n 0 (subst T (sym h) tt)))
round-neg (negsuc n) h =
    cond-case (ltb 127 (suc n)) (negsuc (suc n - 128)) (pos (127 - suc n)) (λ z. floor_div z 256 ≡ neg_ℤ (pos ((suc n + 128) / 256)))
    (λ t. ap (λ (k : ℕ). neg_ℤ (pos k)) (far n (ltb→lt 127 (suc n) t)))
    (λ t. ap pos (near n (nltb→le 127 (suc n) t)) ∙ ap (λ (k : ℕ). neg_ℤ (pos k)) (none n (nltb→le 127 (suc n) t)))
  where
    far : (n : ℕ) → 127 < suc n → suc ((suc n - 128) / 256) ≡ (suc n + 128) / 256
    far n h = omega arith

    near : (n : ℕ) → suc n ≤ 127 → (127 - suc n) / 256 ≡ 0
    near n h = omega arith

    none : (n : ℕ) → suc n ≤ 127 → 0 ≡ (suc n + 128) / 256
    none n h = omega arith

pub round-pos : (a : ℤ) → lt_z a (pos 0) ≡ false → floor_div (a +ℤ pos 128) 256 ≡ round256 a
unfolding round256
round-pos (pos n) h = refl
round-pos (negsuc n) h = absurd (subst T h tt)
