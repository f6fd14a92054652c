-- The match over length and code: a kernel of a known length and code is the one that was asked for. For any record: `at r k` is number k of r. Assumes nothing.
--     highest-code         the codes of a known length
--     code_gives           a kernel's promise, at the code that was asked for
--     dst16, -small, table16-last   the table of a dense kernel of 16
--     cut-long             a cut length above 4
--     cut-kind, cut_dense  a cut length has the kind too, and its kernel is that of the length
--     cut-table, cut-rest  the table of a cut length; a cut length that is neither 4, 8 nor 16
use mathlib.Core.Path.{◌≡◌, refl, sym, ap, ◌∙◌, subst}
use mathlib.Core.Logic.{◌⊎◌, inl, inr}
use mathlib.Core.Bool.{true, cond}
use mathlib.Core.List.{List}
use Prim.Native.Nat.{ℕ, zero, suc, ◌*◌, ◌≤◌, ◌<◌}
use native.Mathlib.Omega.{arith}
use borrow.Author.Tests.{leb-true}
use lib.Dec.{eqb, leb, lit<}
use lib.IntN.{ℤ}
use lib.ListN.{length, take}
use Rattle.whole.specs.Sums.{size_of, row_at}
use Rattle.whole.proofs.Parts.{rows-light}
use Rattle.tables.specs.Sizes.{cut}
use Rattle.tables.specs.Kinds.{has_kind}
use Rattle.tables.specs.Dst.{adst16, flipadst16, ddt16}
use Rattle.tables.specs.Dense.{dct_table, dense_by, dense_of}
use Rattle.tables.proofs.Rules.{dst-sizes}
use Rattle.tables.proofs.Kernels.{Length, n4, n8, n16, n32, n64, lengths}

-- `of k xs` are the numbers of transform k of xs
pub code_gives : {A : Type 0} (of : ℕ → A → List ℤ) (n : ℕ) (xs ys : A) {code d : ℕ} → code ≡ d → ((k : ℕ) → take n (of k ys) ≡ dense_of n d (of k xs)) → (k : ℕ) → take n (of k ys) ≡ dense_of n code (of k xs)
code_gives of n xs ys e h k = h k ∙ ap (λ z. dense_of n z (of k xs)) (sym e)

-- ---- the dense kernels of 16
abbrev pub table_of : ℕ → List ℤ
table_of code = cond (eqb code 2) adst16 (cond (eqb code 3) flipadst16 ddt16)

pub dst16 : (code : ℕ) → 2 ≤ code → code ≤ 5 → (xs : List ℤ) → dense_by (eqb code 5) 16 (table_of code) xs ≡ dense_of 16 code xs
unfolding dense_of
dst16 zero a b xs = absurd (omega arith)
dst16 (suc zero) a b xs = absurd (omega arith)
dst16 (suc (suc zero)) a b xs = refl
dst16 (suc (suc (suc zero))) a b xs = refl
dst16 (suc (suc (suc (suc zero)))) a b xs = refl
dst16 (suc (suc (suc (suc (suc zero))))) a b xs = refl
dst16 (suc (suc (suc (suc (suc (suc n)))))) a b xs = absurd (omega arith)

abbrev pub Small : List ℤ → Type 0
Small t = (length t ≡ 16 * 16) × ((i : ℕ) → i < 16 → size_of (row_at 16 t i) < 4096)

pub dst16-small : (code : ℕ) → 2 ≤ code → code ≤ 5 → Small (table_of code)
dst16-small zero a b = absurd (omega arith)
dst16-small (suc zero) a b = absurd (omega arith)
dst16-small (suc (suc zero)) a b = (refl, rows-light 16 adst16 dst-sizes.2 (lit< tt))
dst16-small (suc (suc (suc zero))) a b = (refl, rows-light 16 flipadst16 dst-sizes.4 (lit< tt))
dst16-small (suc (suc (suc (suc zero)))) a b = (refl, rows-light 16 ddt16 dst-sizes.6 (lit< tt))
dst16-small (suc (suc (suc (suc (suc zero))))) a b = (refl, rows-light 16 ddt16 dst-sizes.6 (lit< tt))
dst16-small (suc (suc (suc (suc (suc (suc n)))))) a b = absurd (omega arith)

pub table16-last : (code : ℕ) → 2 ≤ code → code ≤ 5 → (code ≡ 2 → ⊥) → (code ≡ 3 → ⊥) → ddt16 ≡ table_of code
table16-last zero a b p q = absurd (omega arith)
table16-last (suc zero) a b p q = absurd (omega arith)
table16-last (suc (suc zero)) a b p q = absurd (p refl)
table16-last (suc (suc (suc zero))) a b p q = absurd (q refl)
table16-last (suc (suc (suc (suc zero)))) a b p q = refl
table16-last (suc (suc (suc (suc (suc zero))))) a b p q = refl
table16-last (suc (suc (suc (suc (suc (suc n)))))) a b p q = absurd (omega arith)

-- ---- lengths and codes
module _ (n code : ℕ) (h : has_kind n code ≡ true) where
  pub highest-code : (m top : ℕ) → n ≡ m → has_kind m code ≡ leb code top → code ≤ top
  highest-code m top e f = leb-true code top (sym f ∙ subst (λ (j : ℕ). has_kind j code ≡ true) e h)

  only_zero : leb code 0 ≡ true → code ≡ 0
  only_zero k = omega (arith, leb-true code 0 k)

  by-length : (P : ℕ → Type 0) → P 4 → P 8 → P 16 → P 32 → P 64 → P n
  by-length P a b c d e = go (lengths n code h).0
    where
      go : {m : ℕ} → Length m → P m
      go n4 = a
      go n8 = b
      go n16 = c
      go n32 = d
      go n64 = e

  pub cut-long : 4 < cut n → (cut n ≡ 8) ⊎ ((cut n ≡ 16) ⊎ (cut n ≡ 32))
  cut-long =
      by-length (λ m. 4 < cut m → (cut m ≡ 8) ⊎ ((cut m ≡ 16) ⊎ (cut m ≡ 32)))
      (λ l. absurd (omega arith)) (λ l. inl refl) (λ l. inr (inl refl)) (λ l. inr (inr refl)) (λ l. inr (inr refl))

  pub cut-rest : (cut n ≡ 4 → ⊥) → (cut n ≡ 8 → ⊥) → (cut n ≡ 16 → ⊥) → cut n ≡ 32
  cut-rest =
      by-length (λ m. (cut m ≡ 4 → ⊥) → (cut m ≡ 8 → ⊥) → (cut m ≡ 16 → ⊥) → cut m ≡ 32)
      (λ a b c. absurd (a refl)) (λ a b c. absurd (b refl)) (λ a b c. absurd (c refl)) (λ a b c. refl) (λ a b c. refl)

  pub cut-table : dct_table (cut n) ≡ dct_table n
  cut-table = by-length (λ m. dct_table (cut m) ≡ dct_table m) refl refl refl refl refl

  pub cut-kind : has_kind (cut n) code ≡ true
  cut-kind =
      by-length (λ m. has_kind m code ≡ true → has_kind (cut m) code ≡ true)
      (λ k. k) (λ k. k) (λ k. k) (λ k. k) (λ k. ap (λ z. has_kind 32 z) (only_zero k)) h

  pub cut_dense : (xs : List ℤ) → dense_of (cut n) code xs ≡ dense_of n code xs
  unfolding dense_of
  cut_dense xs =
      by-length (λ m. has_kind m code ≡ true → dense_of (cut m) code xs ≡ dense_of m code xs)
      (λ k. refl) (λ k. refl) (λ k. refl) (λ k. refl) (λ k. ap (λ z. dense_of 32 z xs) (only_zero k) ∙ ap (λ z. dense_of 64 z xs) (sym (only_zero k))) h
