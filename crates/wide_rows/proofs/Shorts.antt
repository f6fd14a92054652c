-- Numbers at 32 bits within a bound, and sums and differences of two. Assumes nothing.
--     plus-is, minus-fits, minus_is     the machine's sum and difference of numbers within 2^28 and 2^26
--     known                             a number within a bound, read back, by another name
--     added                             the machine's sum of two numbers within 2^25
use mathlib.Core.Path.{◌≡◌, ◌∙◌, subst}
use Prim.Native.Nat.{ℕ, ◌^◌, ◌≤◌, ◌<◌}
use lib.Dec.{lit<}
use lib.IntN.{ℤ, nat_abs, ◌+ℤ◌, ◌-ℤ◌}
use mir.Syntax.{w32}
use mir.Val.{SFits, to_z, of_z}
use Rattle.whole.proofs.Num.{Num, made, plus, minus, read, ask}

abbrev pub word : ℤ → ℤ
word z = to_z w32 (of_z w32 z)

-- ---- the machine has m, which is y, and n, which is o
module _ {m n y o : ℤ} (a : Num m y (2 ^ 28)) (b : Num n o (2 ^ 26)) where
  pub plus-is : word (m +ℤ n) ≡ y +ℤ o
  plus-is = (read (plus a b) w32 (lit< tt)).is

  pub minus-fits : SFits w32 (m -ℤ n)
  minus-fits = ask (minus a b) w32 (lit< tt)

  pub minus_is : word (m -ℤ n) ≡ y -ℤ o
  minus_is = (read (minus a b) w32 (lit< tt)).is

-- a number with a bound, by another name
pub known : {z v : ℤ} {b : ℕ} → z ≡ v → nat_abs z ≤ b → b < 2 ^ 31 → Num (word z) v b
known {b = b} e h l = record { is = (made w32 h l).is ∙ e; size = subst (λ (y : ℤ). nat_abs y ≤ b) e h }

-- a sum of two such numbers
pub added : {m n y o : ℤ} → Num m y (2 ^ 25) → Num n o (2 ^ 25) → Num (word (m +ℤ n)) (y +ℤ o) (2 ^ 26)
added a b = read (plus a b) w32 (lit< tt)
