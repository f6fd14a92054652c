-- The folded list by its owners: what one more step does to it. Assumes nothing.
--     total-same, total-none     a sum depends on the steps that went there
--     groups-same                so does the folded list
--     group-join                 the sum that a step and its partner have
--     alone-by, other-by         the search finds no partner, or a step that is none
--     here-by                    the search finds the partner: the folded list has the sum in its place, or neither
--     entry-back                 a step by itself is the transform of its residuals
use mathlib.Core.Path.{◌≡◌, refl, sym, ap, ◌∙◌, subst}
use mathlib.Core.Bool.{Bool, true, false, cond, ◌&&◌}
use mathlib.Core.List.{List, ◌∷◌}
use Prim.Native.Nat.{ℕ, zero, suc, ◌≤◌, ◌<◌}
use native.Mathlib.Nat as N
use native.Mathlib.Omega.{arith}
use borrow.Author.Tests.{eqb-true, eqb-false, eq-eqb, ne_eqb}
use lib.Dec.{eqb}
use lib.IntN.{ℤ, pos, nat_abs, ◌+ℤ◌, +ℤ_idl}
use lib.ListN.{length}
use Rattle.whole.specs.Sums.{tab, item}
use Rattle.whole.proofs.Fill.{tab-same, tab-at, tab-list, within-tab}
use Rattle.wht.specs.Wht.{fwht, iwht}
use Rattle.wht.specs.Calls.{Sixteen}
use Rattle.wht.proofs.Inverse.{iwht-fwht, fwht-iwht, iwht-length}
use Rattle.remain.specs.Remaining.{Entry, mark_at, levels_at, last}
use Rattle.remain.proofs.Finds.{last-most}
use Rattle.folding.specs.Fold.{nothing, just, meets, alike, is_zero, sizes, summed, merged, behind, joins, join_fair}
use Rattle.folding.specs.Owners.{total, sum_of, group_at, groups}

-- ---- sums
total-same : (w w' : ℕ → ℕ) (l l' : List ℤ) (h n : ℕ) → ((j : ℕ) → j < n → eqb (w' j) h ≡ eqb (w j) h) → ((j : ℕ) → j < n → w j ≡ h → levels_at l' j ≡ levels_at l j)
    → (k : ℕ) → total w' l' h n k ≡ total w l h n k
unfolding total
total-same w w' l l' h zero f g k = refl
total-same w w' l l' h (suc n) f g k =
    ap (λ b. cond b (total w' l' h n k +ℤ item (iwht (levels_at l' n)) k) (total w' l' h n k)) (f n (N.le_refl (suc n)))
    ∙ go (eqb (w n) h) refl (total-same w w' l l' h n (λ j i. f j (omega arith)) (λ j i. g j (omega arith)) k)
  where
    go : (b : Bool) → eqb (w n) h ≡ b → total w' l' h n k ≡ total w l h n k
        → cond b (total w' l' h n k +ℤ item (iwht (levels_at l' n)) k) (total w' l' h n k) ≡ cond b (total w l h n k +ℤ item (iwht (levels_at l n)) k) (total w l h n k)
    go true e r = λ i. r i +ℤ item (iwht (g n (N.le_refl (suc n)) (eqb-true (w n) h e) i)) k
    go false e r = r

pub total-by : (w w' : ℕ → ℕ) (l l' : List ℤ) (h n : ℕ) → ((j : ℕ) → j < n → eqb (w' j) h ≡ eqb (w j) h) → ((j : ℕ) → j < n → w j ≡ h → levels_at l' j ≡ levels_at l j)
    → (k : ℕ) → total w' l' h n k ≡ total w l h n k
total-by w w' l l' h n f g k = total-same w w' l l' h n f g k

pub total-none : (w : ℕ → ℕ) (l : List ℤ) (h n : ℕ) → ((j : ℕ) → j < n → w j ≡ h → ⊥) → (k : ℕ) → total w l h n k ≡ pos 0
unfolding total
total-none w l h zero f k = refl
total-none w l h (suc n) f k =
    ap (λ b. cond b (total w l h n k +ℤ item (iwht (levels_at l n)) k) (total w l h n k)) (ne_eqb (w n) h (f n (N.le_refl (suc n))))
    ∙ total-none w l h n (λ j i. f j (omega arith)) k

-- one more step that went there, or elsewhere
pub total-more : (w : ℕ → ℕ) (l : List ℤ) (h n k : ℕ) → w n ≡ h → total w l h (suc n) k ≡ total w l h n k +ℤ item (iwht (levels_at l n)) k
unfolding total
total-more w l h n k e = ap (λ b. cond b (total w l h n k +ℤ item (iwht (levels_at l n)) k) (total w l h n k)) (eq-eqb (w n) h e)

pub total-past : (w : ℕ → ℕ) (l : List ℤ) (h n k : ℕ) → (w n ≡ h → ⊥) → total w l h (suc n) k ≡ total w l h n k
unfolding total
total-past w l h n k e = ap (λ b. cond b (total w l h n k +ℤ item (iwht (levels_at l n)) k) (total w l h n k)) (ne_eqb (w n) h e)

-- ---- the folded list
pub groups-same : (w w' : ℕ → ℕ) (s : List ℕ) (l : List ℤ) (n n' m : ℕ) → ((j : ℕ) → j < m → eqb (w' j) j ≡ eqb (w j) j) → ((j : ℕ) → j < m → w j ≡ j → (k : ℕ) → total w' l j n' k ≡ total w l j n k)
    → groups w' s l n' m ≡ groups w s l n m
unfolding groups
groups-same w w' s l n n' zero f g = refl
groups-same w w' s l n n' (suc m) f g =
    ap (λ b. cond b (group_at w' s l n' m ∷ groups w' s l n' m) (groups w' s l n' m)) (f m (N.le_refl (suc m)))
    ∙ go (eqb (w m) m) refl (groups-same w w' s l n n' m (λ j i. f j (omega arith)) (λ j i. g j (omega arith)))
  where
    go : (b : Bool) → eqb (w m) m ≡ b → groups w' s l n' m ≡ groups w s l n m
        → cond b (group_at w' s l n' m ∷ groups w' s l n' m) (groups w' s l n' m) ≡ cond b (group_at w s l n m ∷ groups w s l n m) (groups w s l n m)
    go true e r =
        let q = tab-same 16 (total w' l m n') (total w l m n) (λ k i. g m (N.le_refl (suc m)) (eqb-true (w m) m e) k) in
        λ i. record { mark = mark_at s m; levels = fwht (q i) } ∷ r i
    go false e r = r

-- a step that stands for one, and one that doesn't
pub groups-more : (w : ℕ → ℕ) (s : List ℕ) (l : List ℤ) (n m : ℕ) → w m ≡ m → groups w s l n (suc m) ≡ group_at w s l n m ∷ groups w s l n m
unfolding groups
groups-more w s l n m e = ap (λ b. cond b (group_at w s l n m ∷ groups w s l n m) (groups w s l n m)) (eq-eqb (w m) m e)

pub groups-past : (w : ℕ → ℕ) (s : List ℕ) (l : List ℤ) (n m : ℕ) → (w m ≡ m → ⊥) → groups w s l n (suc m) ≡ groups w s l n m
unfolding groups
groups-past w s l n m e = ap (λ b. cond b (group_at w s l n m ∷ groups w s l n m) (groups w s l n m)) (ne_eqb (w m) m e)

-- ---- a step and its partner
-- the sum of a group's levels and others
pub group-sum : (w : ℕ → ℕ) (l : List ℤ) (n h : ℕ) (v : List ℤ) → summed (fwht (sum_of w l n h)) v ≡ tab 16 (λ k. total w l h n k +ℤ item (iwht v) k)
group-sum w l n h v =
    tab-same 16 (λ k. item (iwht (fwht (sum_of w l n h))) k +ℤ item (iwht v) k) (λ k. total w l h n k +ℤ item (iwht v) k)
    (λ k i. ap (λ z. z +ℤ item (iwht v) k) (ap (λ (t : List ℤ). item t k) (iwht-fwht (sum_of w l n h) refl) ∙ tab-at (pos 0) 16 (total w l h n) k i))

pub entry-back : (v : List ℤ) → length v ≡ 16 → fwht (tab 16 (λ k. pos 0 +ℤ item (iwht v) k)) ≡ v
entry-back v h =
    ap fwht (tab-same 16 (λ k. pos 0 +ℤ item (iwht v) k) (item (iwht v)) (λ k i. +ℤ_idl (item (iwht v) k))
    ∙ ap (λ n. tab n (item (iwht v))) (sym (iwht-length v)) ∙ tab-list (pos 0) (iwht v))
    ∙ fwht-iwht v h

module _ (w : ℕ → ℕ) (s : List ℕ) (l : List ℤ) (n : ℕ) (e : Entry) where
  abbrev test : ℕ → Bool
  test j = eqb (w j) j && meets e (group_at w s l n j)

  pub alone-by : (m : ℕ) → last test m ≡ 0 → (joins e (groups w s l n m) ≡ nothing) × (join_fair e (groups w s l n m) ≡ true)
  unfolding groups joins join_fair last
  alone-by zero q = (refl, refl)
  alone-by (suc m) q = go (eqb (w m) m) (meets e (group_at w s l n m)) refl refl q (alone-by m)
    where
      go : (b c : Bool) → eqb (w m) m ≡ b → meets e (group_at w s l n m) ≡ c → cond (b && c) (suc m) (last test m) ≡ 0
          → (last test m ≡ 0 → (joins e (groups w s l n m) ≡ nothing) × (join_fair e (groups w s l n m) ≡ true))
          → (joins e (cond b (group_at w s l n m ∷ groups w s l n m) (groups w s l n m)) ≡ nothing) × (join_fair e (cond b (group_at w s l n m ∷ groups w s l n m) (groups w s l n m)) ≡ true)
      go true true x y z r = absurd (omega arith)
      go true false x y z r = (rw y (ap (behind (group_at w s l n m)) (r z).0), rw y (r z).1)
      go false c x y z r = r z

  pub other-by : (h m : ℕ) → last test m ≡ suc h → alike e (group_at w s l n h) ≡ false → (joins e (groups w s l n m) ≡ nothing) × (join_fair e (groups w s l n m) ≡ true)
  unfolding groups joins join_fair last
  other-by h zero q d = absurd (omega arith)
  other-by h (suc m) q d = go (eqb (w m) m) (meets e (group_at w s l n m)) refl refl q (λ z. other-by h m z d)
    where
      go : (b c : Bool) → eqb (w m) m ≡ b → meets e (group_at w s l n m) ≡ c → cond (b && c) (suc m) (last test m) ≡ suc h
          → (last test m ≡ suc h → (joins e (groups w s l n m) ≡ nothing) × (join_fair e (groups w s l n m) ≡ true))
          → (joins e (cond b (group_at w s l n m ∷ groups w s l n m) (groups w s l n m)) ≡ nothing) × (join_fair e (cond b (group_at w s l n m ∷ groups w s l n m) (groups w s l n m)) ≡ true)
      go true true x y z r =
          let u : m ≡ h = omega arith in
          let v = ap (λ (j : ℕ). alike e (group_at w s l n j)) u ∙ d in
          (rw (y, v), rw (y, v))
      go true false x y z r = (rw y (ap (behind (group_at w s l n m)) (r z).0), rw y (r z).1)
      go false c x y z r = r z

  -- e's partner is step h. In w' and n' the others are as they were, and h has the sum, or is gone
  module _ (h : ℕ) (same : alike e (group_at w s l n h) ≡ true) where
    abbrev sum : List ℤ
    sum = tab 16 (λ k. total w l h n k +ℤ item (iwht e.levels) k)

    pub fair-by : (m : ℕ) → last test m ≡ suc h → join_fair e (groups w s l n m) ≡ sizes e.mark.depth sum
    unfolding groups join_fair last
    fair-by zero q = absurd (omega arith)
    fair-by (suc m) q = go (eqb (w m) m) (meets e (group_at w s l n m)) refl refl q (fair-by m)
      where
        go : (b c : Bool) → eqb (w m) m ≡ b → meets e (group_at w s l n m) ≡ c → cond (b && c) (suc m) (last test m) ≡ suc h
            → (last test m ≡ suc h → join_fair e (groups w s l n m) ≡ sizes e.mark.depth sum)
            → join_fair e (cond b (group_at w s l n m ∷ groups w s l n m) (groups w s l n m)) ≡ sizes e.mark.depth sum
        go true true x y z r =
            let u : m ≡ h = omega arith in
            let v = ap (λ (j : ℕ). alike e (group_at w s l n j)) u ∙ same in
            rw (y, v) (ap (λ (j : ℕ). sizes e.mark.depth (summed (group_at w s l n j).levels e.levels)) u ∙ ap (sizes e.mark.depth) (group-sum w l n h e.levels))
        go true false x y z r = rw y (r z)
        go false c x y z r = r z

    module _ (w' : ℕ → ℕ) (n' : ℕ) (heads : (j : ℕ) → j < n → (j ≡ h → ⊥) → eqb (w' j) j ≡ eqb (w j) j)
        (others : (j : ℕ) → j < n → (j ≡ h → ⊥) → w j ≡ j → (k : ℕ) → total w' l j n' k ≡ total w l j n k)
        (stays : is_zero sum ≡ false → (w' h ≡ h) × ((k : ℕ) → total w' l h n' k ≡ total w l h n k +ℤ item (iwht e.levels) k))
        (goes : is_zero sum ≡ true → w' h ≡ h → ⊥) where
      at-h : h < n → merged e (group_at w s l n h) (groups w s l n h) ≡ groups w' s l n' (suc h)
      at-h i =
          let g = groups-same w w' s l n n' h (λ j a. heads j (omega arith) (less j a)) (λ j a. others j (omega arith) (less j a)) in
          ap (λ (v : List ℤ). cond (is_zero v) (groups w s l n h) (record { mark = mark_at s h; levels = fwht v } ∷ groups w s l n h)) (group-sum w l n h e.levels)
          ∙ go (is_zero sum) refl (sym g)
        where
          less : (j : ℕ) → j < h → j ≡ h → ⊥
          less j a q = omega arith

          go : (b : Bool) → is_zero sum ≡ b → groups w s l n h ≡ groups w' s l n' h → cond b (groups w s l n h) (record { mark = mark_at s h; levels = fwht sum } ∷ groups w s l n h) ≡ groups w' s l n' (suc h)
          go true q g = g ∙ sym (groups-past w' s l n' h (goes q))
          go false q g =
              let t = stays q in
              let p = tab-same 16 (λ k. total w l h n k +ℤ item (iwht e.levels) k) (total w' l h n') (λ k i. sym (t.1 k)) in
              (λ i. record { mark = mark_at s h; levels = fwht (p i) } ∷ g i) ∙ sym (groups-more w' s l n' h t.0)

      pub here-by : (m : ℕ) → m ≤ n → last test m ≡ suc h → joins e (groups w s l n m) ≡ just (groups w' s l n' m)
      unfolding joins last
      here-by zero a q = absurd (omega arith)
      here-by (suc m) a q = go (eqb (w m) m) (meets e (group_at w s l n m)) refl refl q (λ z. here-by m (omega arith) z)
        where
          go : (b c : Bool) → eqb (w m) m ≡ b → meets e (group_at w s l n m) ≡ c → cond (b && c) (suc m) (last test m) ≡ suc h
              → (last test m ≡ suc h → joins e (groups w s l n m) ≡ just (groups w' s l n' m))
              → joins e (groups w s l n (suc m)) ≡ just (groups w' s l n' (suc m))
          go true true x y z r =
              let u : m ≡ h = omega arith in
              let v = ap (λ (j : ℕ). alike e (group_at w s l n j)) u ∙ same in
              let f : joins e (group_at w s l n m ∷ groups w s l n m) ≡ just (merged e (group_at w s l n m) (groups w s l n m)) = rw (y, v) in
              ap (joins e) (groups-more w s l n m (eqb-true (w m) m x)) ∙ f
              ∙ ap just (subst (λ (j : ℕ). merged e (group_at w s l n j) (groups w s l n j) ≡ groups w' s l n' (suc j)) (sym u) (at-h (omega arith)))
          go true false x y z r =
              let i = eqb-true (w m) m x in
              let d = apart z in
              let f : joins e (group_at w s l n m ∷ groups w s l n m) ≡ behind (group_at w s l n m) (joins e (groups w s l n m)) = rw y in
              let p = tab-same 16 (total w l m n) (total w' l m n') (λ k _. sym (others m a d i k)) in
              ap (joins e) (groups-more w s l n m i) ∙ f ∙ ap (behind (group_at w s l n m)) (r z)
              ∙ (λ t. just (record { mark = mark_at s m; levels = fwht (p t) } ∷ groups w' s l n' m))
              ∙ ap just (sym (groups-more w' s l n' m (eqb-true (w' m) m (heads m a d ∙ x))))
            where
              apart : last test m ≡ suc h → m ≡ h → ⊥
              apart z q = omega (arith, last-most test m)
          go false c x y z r =
              let d = apart z in
              ap (joins e) (groups-past w s l n m (eqb-false (w m) m x)) ∙ r z ∙ ap just (sym (groups-past w' s l n' m (eqb-false (w' m) m (heads m a d ∙ x))))
            where
              apart : last test m ≡ suc h → m ≡ h → ⊥
              apart z q = omega (arith, last-most test m)

-- a sum's sixteen numbers, where each is small
pub sum-in : (w : ℕ → ℕ) (l : List ℤ) (h n : ℕ) → ((k : ℕ) → k < 16 → nat_abs (total w l h n k) ≤ 1048576) → Sixteen 1048576 (sum_of w l n h)
sum-in w l h n f = record { count = refl; small = within-tab 1048576 16 (total w l h n) f }
