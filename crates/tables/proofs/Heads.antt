-- The DCT of at most four live inputs, by the head of its table. Assumes nothing.
--     head-sizes     the length of a head, and its h
--     byte-size      a number of a table
--     head-left      the sums of the even and of the odd inputs, joined, are the dense product
--     head-four      the dense product of the first four numbers alone
use mathlib.Core.Path.{◌≡◌, refl, sym, ap, ◌∙◌, subst}
use mathlib.Core.Logic.{inl, inr}
use mathlib.Core.Bool.{Bool, true, false, cond}
use mathlib.Core.List.{List, [], ◌∷◌}
use Prim.Native.Nat.{ℕ, zero, suc, ◌+◌, ◌-◌, ◌^◌, ◌≤◌, ◌<◌}
use native.Mathlib.Omega.{arith}
use lib.Dec.{ltb}
use lib.Signed.{mag}
use lib.IntN.{ℤ, pos, negsuc, nat_abs, ◌+ℤ◌, ◌-ℤ◌, ◌*ℤ◌, +ℤ_idl, +ℤ_idr, zero-*ℤ, *ℤ_comm}
use lib.ListN.{length, get_or, take}
use Rattle.whole.specs.Sums.{tab, dot_z, col_at, dense_c, fold_at, fold_row, ◌+ʳ◌, negʳ}
use Rattle.whole.proofs.Sums.{dot-step, dot-add, dot-neg}
use Rattle.whole.proofs.Fill.{tab-same}
use Rattle.tables.specs.Head.{head8, head16, head32, HeadTable, even_at, odd_at}
use Rattle.tables.specs.Dense.{first_of, dct_table}
use Rattle.tables.proofs.First.{dot-first}

pub byte-size : (a : ℤ) → mag a < 2 ^ 7 → nat_abs a ≤ 128
byte-size (pos n) h = omega arith
byte-size (negsuc n) h = omega arith

pub head-sizes : {h : ℕ} {t : List ℤ} → HeadTable h t → (length t ≡ h + h + h) × (h ≤ 16) × (4 ≤ h)
head-sizes (inl p) = (ap length p.1 ∙ ap (λ h. h + h + h) (sym p.0), omega (arith, p.0), omega (arith, p.0))
head-sizes (inr (inl p)) = (ap length p.1 ∙ ap (λ h. h + h + h) (sym p.0), omega (arith, p.0), omega (arith, p.0))
head-sizes (inr (inr p)) = (ap length p.1 ∙ ap (λ h. h + h + h) (sym p.0), omega (arith, p.0), omega (arith, p.0))

-- ---- the sums as rows
abbrev even_row : ℕ → List ℤ → ℕ → List ℤ
even_row h t k = pos 64 ∷ pos 0 ∷ get_or t (h + k) (pos 0) ∷ []

abbrev odd_row : ℕ → List ℤ → ℕ → List ℤ
odd_row h t k = pos 0 ∷ get_or t k (pos 0) ∷ pos 0 ∷ get_or t (h + h + k) (pos 0) ∷ []

module _ (ys : List ℤ) where
  abbrev y : ℕ → ℤ
  y i = get_or ys i (pos 0)

  even-dot : (u : ℤ) → dot_z (pos 64 ∷ pos 0 ∷ u ∷ []) ys ≡ y 0 *ℤ pos 64 +ℤ y 2 *ℤ u
  even-dot u =
      let r : List ℤ = pos 64 ∷ pos 0 ∷ u ∷ [] in
      dot-step 2 r ys
      ∙ ap (λ z. z +ℤ u *ℤ y 2) (dot-step 1 r ys ∙ ap (λ z. dot_z (take 1 r) ys +ℤ z) (zero-*ℤ (y 1)) ∙ +ℤ_idr (dot_z (take 1 r) ys) ∙ dot-step 0 r ys ∙ +ℤ_idl (pos 64 *ℤ y 0) ∙ *ℤ_comm (pos 64) (y 0))
      ∙ ap (λ z. y 0 *ℤ pos 64 +ℤ z) (*ℤ_comm u (y 2))

  odd-dot : (u v : ℤ) → dot_z (pos 0 ∷ u ∷ pos 0 ∷ v ∷ []) ys ≡ y 1 *ℤ u +ℤ y 3 *ℤ v
  odd-dot u v =
      let r : List ℤ = pos 0 ∷ u ∷ pos 0 ∷ v ∷ [] in
      dot-step 3 r ys
      ∙ ap (λ z. z +ℤ v *ℤ y 3)
      (dot-step 2 r ys ∙ ap (λ z. dot_z (take 2 r) ys +ℤ z) (zero-*ℤ (y 2)) ∙ +ℤ_idr (dot_z (take 2 r) ys) ∙ dot-step 1 r ys
      ∙ ap (λ z. z +ℤ u *ℤ y 1) (dot-step 0 r ys ∙ +ℤ_idl (pos 0 *ℤ y 0) ∙ zero-*ℤ (y 0)) ∙ +ℤ_idl (u *ℤ y 1) ∙ *ℤ_comm u (y 1))
      ∙ ap (λ z. y 1 *ℤ u +ℤ z) (*ℤ_comm v (y 3))

  fold-dot : (h : ℕ) (t : List ℤ) (k : ℕ) → fold_at h (even_at h t ys) (odd_at h t ys) k ≡ dot_z (fold_row h (even_row h t) (odd_row h t) k) ys
  fold-dot h t k = go (ltb k h)
    where
      sum : (j : ℕ) → even_at h t ys j +ℤ odd_at h t ys j ≡ dot_z (even_row h t j +ʳ odd_row h t j) ys
      sum j =
          ap (λ z. z +ℤ odd_at h t ys j) (sym (even-dot (get_or t (h + j) (pos 0)))) ∙ ap (λ z. dot_z (even_row h t j) ys +ℤ z) (sym (odd-dot (get_or t j (pos 0)) (get_or t (h + h + j) (pos 0))))
          ∙ sym (dot-add (even_row h t j) (odd_row h t j) ys)

      difference : (j : ℕ) → even_at h t ys j -ℤ odd_at h t ys j ≡ dot_z (even_row h t j +ʳ negʳ (odd_row h t j)) ys
      difference j =
          ap (λ z. z -ℤ odd_at h t ys j) (sym (even-dot (get_or t (h + j) (pos 0)))) ∙ ap (λ z. dot_z (even_row h t j) ys -ℤ z) (sym (odd-dot (get_or t j (pos 0)) (get_or t (h + h + j) (pos 0))))
          ∙ ap (λ z. dot_z (even_row h t j) ys +ℤ z) (sym (dot-neg (odd_row h t j) ys)) ∙ sym (dot-add (even_row h t j) (negʳ (odd_row h t j)) ys)

      go : (b : Bool) → cond b (even_at h t ys k +ℤ odd_at h t ys k) (even_at h t ys (h + h - 1 - k) -ℤ odd_at h t ys (h + h - 1 - k)) ≡ dot_z (cond b (even_row h t k +ʳ odd_row h t k) (even_row h t (h + h - 1 - k) +ʳ negʳ (odd_row h t (h + h - 1 - k)))) ys
      go true = sum k
      go false = difference (h + h - 1 - k)

  -- the rows are those of the table, as far as four inputs
  abbrev Rowed : ℕ → List ℤ → Type 0
  Rowed h t = tab (h + h) (λ k. dot_z (fold_row h (even_row h t) (odd_row h t) k) ys) ≡ tab (h + h) (λ m. dot_z (take 4 (col_at (h + h) (dct_table (h + h)) m)) ys)

  rowed : {h : ℕ} {t : List ℤ} → HeadTable h t → Rowed h t
  rowed {h} {t} (inl p) = subst (λ (u : List ℤ). Rowed h u) (sym p.1) (subst (λ (n : ℕ). Rowed n head8) (sym p.0) refl)
  rowed {h} {t} (inr (inl p)) = subst (λ (u : List ℤ). Rowed h u) (sym p.1) (subst (λ (n : ℕ). Rowed n head16) (sym p.0) refl)
  rowed {h} {t} (inr (inr p)) = subst (λ (u : List ℤ). Rowed h u) (sym p.1) (subst (λ (n : ℕ). Rowed n head32) (sym p.0) refl)

pub head-left : {h : ℕ} {t : List ℤ} → HeadTable h t → (live : ℕ) (xs : List ℤ) → live ≤ 4
    → tab (h + h) (fold_at h (even_at h t (first_of live xs)) (odd_at h t (first_of live xs))) ≡ dense_c (h + h) (dct_table (h + h)) (first_of live xs)
head-left {h} {t} p live xs l =
    let ys = first_of live xs in
    tab-same (h + h) (fold_at h (even_at h t ys) (odd_at h t ys)) (λ k. dot_z (fold_row h (even_row h t) (odd_row h t) k) ys) (λ k q. fold-dot ys h t k)
    ∙ rowed ys p
    ∙ tab-same (h + h) (λ m. dot_z (take 4 (col_at (h + h) (dct_table (h + h)) m)) ys) (λ m. dot_z (col_at (h + h) (dct_table (h + h)) m) ys) (λ m q. dot-first 4 live (col_at (h + h) (dct_table (h + h)) m) xs l)

-- of a list of four numbers, nothing else being there
shorter : (k : ℕ) (r ys : List ℤ) → dot_z r (take k ys) ≡ dot_z (take k r) ys
shorter zero [] ys = refl
shorter zero (a ∷ r) ys = refl
shorter (suc k) [] ys = refl
shorter (suc k) (a ∷ r) [] = refl
shorter (suc k) (a ∷ r) (y ∷ ys) = ap (λ z. a *ℤ y +ℤ z) (shorter k r ys)

pub head-four : (n live : ℕ) (t xs ys : List ℤ) → live ≤ 4 → ys ≡ take 4 (first_of live xs) → dense_c n t ys ≡ dense_c n t (first_of live xs)
head-four n live t xs ys l e =
    ap (dense_c n t) e
    ∙ tab-same n (λ m. dot_z (col_at n t m) (take 4 (first_of live xs))) (λ m. dot_z (col_at n t m) (first_of live xs))
    (λ m q. shorter 4 (col_at n t m) (first_of live xs) ∙ dot-first 4 live (col_at n t m) xs l)
