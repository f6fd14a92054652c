-- Numbers that 16 bits hold. Assumes nothing.
--     short-by        a number that passes the test is such a number
--     none_long       where no number fails it, all are such
use mathlib.Core.Path.{◌≡◌, refl, sym, ◌∙◌}
use mathlib.Core.Bool.{Bool, true, false, not, ◌&&◌, cond}
use mathlib.Core.List.{List, [], ◌∷◌}
use Prim.Native.Nat.{ℕ, zero, suc, ◌+◌}
use native.Mathlib.Nat as N
use native.Mathlib.Omega.{arith}
use borrow.Author.Tests.{leb-true}
use lib.Dec.{leb}
use lib.IntN.{ℤ, pos, negsuc}
use Rattle.std.specs.List.{count_by}
use Rattle.std.proofs.lemmas.List.Sums.{sum_by-cons}
use Rattle.rows.specs.Short.{Short, is_short, AllShort}

left : (a : Bool) → (a && true) ≡ true → a ≡ true
left true e = refl
left false e = e

pub short-by : (z : ℤ) → is_short z ≡ true → Short z
short-by (pos n) e = omega (arith, leb-true n 32767 e)
short-by (negsuc n) e = omega (arith, leb-true n 32767 (left (leb n 32767) e))

passed : (b : Bool) (n : ℕ) → cond (not b) 1 0 + n ≡ 0 → (b ≡ true) × (n ≡ 0)
passed true n e = (refl, omega arith)
passed false n e = absurd (omega arith)

split : (x : ℤ) (xs : List ℤ) → count_by (λ z. not (is_short z)) (x ∷ xs) ≡ 0 → (is_short x ≡ true) × (count_by (λ z. not (is_short z)) xs ≡ 0)
split x xs e = passed (is_short x) (count_by (λ z. not (is_short z)) xs) (sym (sum_by-cons (λ z. cond (not (is_short z)) 1 0) x xs) ∙ e)

pub none_long : (xs : List ℤ) → count_by (λ z. not (is_short z)) xs ≡ 0 → AllShort xs
none_long [] e k l = absurd (N.not-suc-le-zero l)
none_long (x ∷ xs) e zero l = short-by x (split x xs e).0
none_long (x ∷ xs) e (suc k) l = none_long xs (split x xs e).1 k (N.le_of_suc-le-suc l)
