-- Which kernel a length and a kind code have. Assumes nothing.
--     by_code, by_length      a product of the code that was met is that of the code; the same of the length
--     times-left              what `inv_identity` leaves of n numbers
--     asked-at                what `inv_tx1d` asks, at the length that was met
--     only-64, only-0         the length that is left, and its one code
use mathlib.Core.Path.{◌≡◌, refl, sym, ap, ◌∙◌, subst}
use mathlib.Core.Bool.{true}
use mathlib.Core.List.{List}
use Prim.Native.Nat.{ℕ}
use native.Mathlib.Omega.{arith}
use borrow.Author.Tests.{leb-true}
use lib.IntN.{ℤ}
use lib.ListN.{length}
use Rattle.tables.specs.Sizes.{cut}
use Rattle.tables.specs.Kinds.{has_kind}
use Rattle.tables.specs.Dense.{multiplied, dense_of}
use Rattle.tables.proofs.Kernels.{Length, n4, n8, n16, n32, n64, lengths}
use Rattle.kernels.specs.Inputs.{Inputs, Live}

module _ (xs : List ℤ) {out : List ℤ} where
  pub by_code : (n : ℕ) {code k : ℕ} → code ≡ k → out ≡ dense_of n k xs → out ≡ dense_of n code xs
  by_code n e p = p ∙ ap (λ c. dense_of n c xs) (sym e)

  pub by_length : (code : ℕ) {n m : ℕ} → n ≡ m → out ≡ dense_of m code xs → out ≡ dense_of n code xs
  by_length code e p = p ∙ ap (λ l. dense_of l code xs) (sym e)

  pub times-left : {n : ℕ} (factor : ℤ) → Inputs n xs → out ≡ multiplied (length xs) factor xs → out ≡ multiplied n factor xs
  times-left factor inputs p = p ∙ ap (λ n. multiplied n factor xs) inputs.0

abbrev pub Asked : List ℤ → ℕ → ℕ → ℕ → Type 0
Asked xs live n code = (has_kind n code ≡ true) × Live (cut n) live xs

pub asked-at : (xs : List ℤ) (live code : ℕ) {n m : ℕ} → n ≡ m → Asked xs live n code → Asked xs live m code
asked-at xs live code e a = subst (λ (l : ℕ). Asked xs live l code) e a

pub only-64 : (n code : ℕ) → has_kind n code ≡ true → (n ≡ 4 → ⊥) → (n ≡ 8 → ⊥) → (n ≡ 16 → ⊥) → (n ≡ 32 → ⊥) → n ≡ 64
only-64 n code k p q r s = at (lengths n code k).0 p q r s
  where
    at : {m : ℕ} → Length m → (m ≡ 4 → ⊥) → (m ≡ 8 → ⊥) → (m ≡ 16 → ⊥) → (m ≡ 32 → ⊥) → m ≡ 64
    at n4 p q r s = absurd (p refl)
    at n8 p q r s = absurd (q refl)
    at n16 p q r s = absurd (r refl)
    at n32 p q r s = absurd (s refl)
    at n64 p q r s = refl

pub only-0 : (code : ℕ) → has_kind 64 code ≡ true → code ≡ 0
only-0 code k = omega (arith, leb-true code 0 k)
