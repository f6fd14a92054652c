-- Rows of sixteen in a list, and what is left of them by the functions that write two rows. Assumes nothing.
--     put_both                                  two rows that callees filled, and every other row as it was
--     even-weights                              weights 0 and 2 of a column, and 1 and 3
--     row_count, row_within                     a row that is lent has sixteen numbers, within the bound of the row
--     started-row                               what `row_of_two` leaves
--     joined-row, joined-long                   what `row_of` leaves, and `row_of_sixteen`
use mathlib.Core.Path.{◌≡◌, refl, sym, ap, ◌∙◌, subst}
use mathlib.Core.Logic.{◌⊎◌, inl, inr}
use mathlib.Core.List.{List, [], ◌∷◌, ◌++◌}
use Prim.Native.Nat.{ℕ, ◌+◌, ◌*◌, ◌-◌, ◌^◌, ◌≤◌, ◌<◌}
use native.Mathlib.Nat as N
use native.Mathlib.Omega.{arith}
use borrow.Rule.Slice.PartMut.{put_mid, same_len_mid}
use lib.Arith.{lt_of_le-ne}
use lib.IntN.{ℤ, pos, nat_abs, ◌+ℤ◌, ◌-ℤ◌, ◌*ℤ◌, +ℤ_assoc, +ℤ_idl}
use lib.ListN.{length, get_or}
use Rattle.whole.specs.Sums.{tab, dot_z, Within}
use Rattle.whole.proofs.Fill.{length-tab, tab-at}
use Rattle.whole.proofs.Cells.{under, row_below}
use Rattle.whole.proofs.Lent.{lent, lent-count, lent_at, lent-within, part_count, mid-in, mid-below, mid-above}
use Rattle.wide_rows.specs.Lines.{line, taps, Low, Both, Written, odd_of, Step, Started, Half}

-- ---- two rows that callees filled
module _ (m : ℕ) (old ys : List ℤ) (fit : m * 16 + 16 ≤ length old) (long : length ys ≡ 16) where
  kept_row : (l r : ℕ) → l < 16 → (r ≡ m → ⊥) → line (put_mid (m * 16) 16 old ys) l r ≡ line old l r
  kept_row l r h n = go (under m r)
    where
      go : ((m ≤ r) ⊎ (r < m)) → line (put_mid (m * 16) 16 old ys) l r ≡ line old l r
      go (inl a) = mid-above (pos 0) (m * 16) 16 old ys fit long (r * 16 + l) (omega (arith, row_below 16 (lt_of_le-ne a (λ e. n (sym e)))))
      go (inr a) = mid-below (pos 0) (m * 16) 16 old ys fit long (r * 16 + l) (omega (arith, row_below 16 a))

  same_count : length (put_mid (m * 16) 16 old ys) ≡ length old
  same_count = same_len_mid (m * 16) 16 old ys (long ∙ sym (part_count old (m * 16) 16 fit))

both-rows : (m z : ℕ) (f g : ℕ → ℤ) (old ys zs : List ℤ) → m < z → z * 16 + 16 ≤ length old → ys ≡ tab 16 f → zs ≡ tab 16 g → Written m z f g old (put_mid (z * 16) 16 (put_mid (m * 16) 16 old ys) zs)
both-rows m z f g old ys zs lt fit e d = record {
  long = same_count z mid zs fit2 lz ∙ same_count m old ys fit1 ly;
  low = λ l h. kept_row z mid zs fit2 lz l m h (λ q. N.lt_irrefl m (subst (λ (n : ℕ). m < n) (sym q) lt)) ∙ mid-in (pos 0) (m * 16) 16 old ys fit1 ly l h ∙ ap (λ t. get_or t l (pos 0)) e ∙ tab-at (pos 0) 16 f l h;
  high = λ l h. mid-in (pos 0) (z * 16) 16 mid zs fit2 lz l h ∙ ap (λ t. get_or t l (pos 0)) d ∙ tab-at (pos 0) 16 g l h;
  others = λ l r h a b. kept_row z mid zs fit2 lz l r h b ∙ kept_row m old ys fit1 ly l r h a;
}
  where
    mid : List ℤ
    mid = put_mid (m * 16) 16 old ys

    ly : length ys ≡ 16
    ly = ap length e ∙ length-tab 16 f

    lz : length zs ≡ 16
    lz = ap length d ∙ length-tab 16 g

    fit1 : m * 16 + 16 ≤ length old
    fit1 = omega (arith, row_below 16 lt)

    fit2 : z * 16 + 16 ≤ length mid
    fit2 = omega (arith, same_count m old ys fit1 ly)

pub put_both : {m z : ℕ} {f g : ℕ → ℤ} {old ys zs : List ℤ} → m < z → z * 16 + 16 ≤ length old → ys ≡ tab 16 f → zs ≡ tab 16 g
    → Written m z f g old (put_mid (z * 16) (z * 16 + 16 - z * 16) (put_mid (m * 16) (m * 16 + 16 - m * 16) old ys) zs)
put_both {m} {z} {f} {g} {old} {ys} {zs} lt fit e d =
    subst (λ (n : ℕ). Written m z f g old (put_mid (z * 16) (z * 16 + 16 - z * 16) (put_mid (m * 16) n old ys) zs)) (sym (N.add-sub_cancel_left (m * 16) 16))
    (subst (λ (n : ℕ). Written m z f g old (put_mid (z * 16) n (put_mid (m * 16) 16 old ys) zs)) (sym (N.add-sub_cancel_left (z * 16) 16)) (both-rows m z f g old ys zs lt fit e d))

-- ---- weights
pub even-weights : (s m : ℕ) (t : List ℤ) → taps 2 m (s + s) t ≡ get_or t m (pos 0) ∷ get_or t (m + s + s) (pos 0) ∷ []
even-weights s m t = ap (λ q. get_or t m (pos 0) ∷ get_or t q (pos 0) ∷ []) (place s m)
  where
    place : (s m : ℕ) → m + (s + s) ≡ m + s + s
    place s m = omega arith

-- ---- a row that is lent
module _ (m : ℕ) (out : List ℤ) (fit : m * 16 + 16 ≤ length out) where
  pub row_count : length (lent (m * 16) 16 out) ≡ 16
  row_count = lent-count (pos 0) out (m * 16) 16 fit

  pub row_within : Low (2 ^ 28) (λ l. line out l m) → Within (2 ^ 28) (lent (m * 16) 16 out)
  row_within h = lent-within (2 ^ 28) out (m * 16) 16 fit h

-- ---- what the functions on rows leave
-- the rows f + o, f - o were put
put-are : (m z : ℕ) (f o u : ℕ → ℤ) (old new lo hi : List ℤ) → ((l : ℕ) → l < 16 → o l ≡ u l) → ((l : ℕ) → l < 16 → f l ≡ line old l m) → Both f o lo hi
    → Written m z (λ l. get_or lo l (pos 0)) (λ l. get_or hi l (pos 0)) old new → Written m z (λ l. line old l m +ℤ u l) (λ l. line old l m -ℤ u l) old new × Low (2 ^ 26) u
put-are m z f o u old new lo hi e d b w = (
  record {
    long = w.long;
    low = λ l h. w.low l h ∙ ap (λ t. get_or t l (pos 0)) b.0 ∙ tab-at (pos 0) 16 (λ k. f k +ℤ o k) l h ∙ ap (λ x. x +ℤ o l) (d l h) ∙ ap (λ x. line old l m +ℤ x) (e l h);
    high = λ l h. w.high l h ∙ ap (λ t. get_or t l (pos 0)) b.1 ∙ tab-at (pos 0) 16 (λ k. f k -ℤ o k) l h ∙ ap (λ x. x -ℤ o l) (d l h) ∙ ap (λ x. line old l m -ℤ x) (e l h);
    others = w.others;
  },
  λ l h. subst (λ (x : ℤ). nat_abs x ≤ 2 ^ 26) (e l h) (b.2 l h),
)

put-sums : {m z : ℕ} (f o : ℕ → ℤ) {old new : List ℤ} (lo hi : List ℤ) → Both f o lo hi → Written m z (λ l. get_or lo l (pos 0)) (λ l. get_or hi l (pos 0)) old new
    → Written m z (λ l. f l +ℤ o l) (λ l. f l -ℤ o l) old new
put-sums f o lo hi b w =
    record {
      long = w.long;
      low = λ l h. w.low l h ∙ ap (λ t. get_or t l (pos 0)) b.0 ∙ tab-at (pos 0) 16 (λ k. f k +ℤ o k) l h;
      high = λ l h. w.high l h ∙ ap (λ t. get_or t l (pos 0)) b.1 ∙ tab-at (pos 0) 16 (λ k. f k -ℤ o k) l h;
      others = w.others;
    }

pub started-row : (m z d : ℕ) (old new w ks es js os lo hi : List ℤ) → ks ≡ es → js ≡ os
    → Both (λ l. dot_z ks (taps 2 l (d + d) w)) (λ l. dot_z js (taps 2 (l + d) (d + d) w)) lo hi × Low (2 ^ 23) (λ l. dot_z ks (taps 2 l (d + d) w))
    → Written m z (λ l. get_or lo l (pos 0)) (λ l. get_or hi l (pos 0)) old new → Started d m z w es os old new
started-row m z d old new w ks es js os lo hi e f b p =
    subst (λ (r : List ℤ). Started d m z w r os old new) e
    (subst (λ (r : List ℤ). Started d m z w ks r old new) f
    (put-sums (λ l. dot_z ks (taps 2 l (d + d) w)) (λ l. dot_z js (taps 2 (l + d) (d + d) w)) lo hi b.0 p, b.1, b.0.2))

module _ (m z b : ℕ) (old new w t lo hi : List ℤ) (fit : m * 16 + 16 ≤ length old) where
  pub joined-row : (n : ℕ) (ks : List ℤ) → ks ≡ taps n (m * n) 1 t
      → Both (λ l. get_or (lent (m * 16) 16 old) l (pos 0)) (λ l. dot_z ks (taps n (b + l) (b + b) w)) lo hi
      → Written m z (λ l. get_or lo l (pos 0)) (λ l. get_or hi l (pos 0)) old new → Step n b m z w t old new
  joined-row n ks e =
      put-are m z (λ l. get_or (lent (m * 16) 16 old) l (pos 0)) (λ l. dot_z ks (taps n (b + l) (b + b) w)) (λ l. odd_of n b t w l m) old new lo hi
      (λ l h. ap (λ r. dot_z r (taps n (b + l) (b + b) w)) e) (λ l h. lent_at (pos 0) old (m * 16) 16 fit l h)

dot-split : (r s xs ys : List ℤ) → length r ≡ length xs → dot_z (r ++ s) (xs ++ ys) ≡ dot_z r xs +ℤ dot_z s ys
dot-split [] s [] ys e = sym (+ℤ_idl (dot_z s ys))
dot-split [] s (x ∷ xs) ys e = absurd (omega arith)
dot-split (a ∷ r) s [] ys e = absurd (omega arith)
dot-split (a ∷ r) s (x ∷ xs) ys e = ap (λ z. a *ℤ x +ℤ z) (dot-split r s xs ys (omega arith)) ∙ sym (+ℤ_assoc (a *ℤ x) (dot_z r xs) (dot_z s ys))

module _ (m z b : ℕ) (old new w t lo hi : List ℤ) (fit : m * 16 + 16 ≤ length old) where
  pub joined-long : (p ks : List ℤ) → Half b m w t p → ks ≡ taps 8 (m * 16 + 8) 1 t
      → Both (λ l. get_or (lent (m * 16) 16 old) l (pos 0)) (λ l. get_or p l (pos 0) +ℤ dot_z ks (taps 8 (b + 8 * (b + b) + l) (b + b) w)) lo hi
      → Written m z (λ l. get_or lo l (pos 0)) (λ l. get_or hi l (pos 0)) old new → Step 16 b m z w t old new
  joined-long p ks a e =
      put-are m z (λ l. get_or (lent (m * 16) 16 old) l (pos 0)) (λ l. get_or p l (pos 0) +ℤ dot_z ks (taps 8 (b + 8 * (b + b) + l) (b + b) w)) (λ l. odd_of 16 b t w l m) old new lo hi
      (λ l h. two-parts l h) (λ l h. lent_at (pos 0) old (m * 16) 16 fit l h)
    where
      first : (l : ℕ) → l < 16 → get_or p l (pos 0) ≡ dot_z (taps 8 (m * 16) 1 t) (taps 8 (b + l) (b + b) w)
      first l h = ap (λ q. get_or q l (pos 0)) a.0 ∙ tab-at (pos 0) 16 (λ k. dot_z (taps 8 (m * 16) 1 t) (taps 8 (b + k) (b + b) w)) l h

      after : (q d : ℕ) → q + 8 * d ≡ q + d + d + d + d + d + d + d + d
      after q d = omega arith

      place : (l : ℕ) → b + 8 * (b + b) + l ≡ b + l + 8 * (b + b)
      place l = omega arith

      two-parts : (l : ℕ) → l < 16 → get_or p l (pos 0) +ℤ dot_z ks (taps 8 (b + 8 * (b + b) + l) (b + b) w) ≡ odd_of 16 b t w l m
      two-parts l h =
          ap (λ x. x +ℤ dot_z ks (taps 8 (b + 8 * (b + b) + l) (b + b) w)) (first l h)
          ∙ ap (λ r. dot_z (taps 8 (m * 16) 1 t) (taps 8 (b + l) (b + b) w) +ℤ dot_z r (taps 8 (b + 8 * (b + b) + l) (b + b) w)) (e ∙ ap (λ q. taps 8 q 1 t) (after (m * 16) 1))
          ∙ ap (λ q. dot_z (taps 8 (m * 16) 1 t) (taps 8 (b + l) (b + b) w) +ℤ dot_z (taps 8 (m * 16 + 1 + 1 + 1 + 1 + 1 + 1 + 1 + 1) 1 t) (taps 8 q (b + b) w)) (place l ∙ after (b + l) (b + b))
          ∙ sym (dot-split (taps 8 (m * 16) 1 t) (taps 8 (m * 16 + 1 + 1 + 1 + 1 + 1 + 1 + 1 + 1) 1 t) (taps 8 (b + l) (b + b) w)
          (taps 8 (b + l + (b + b) + (b + b) + (b + b) + (b + b) + (b + b) + (b + b) + (b + b) + (b + b)) (b + b) w) refl)
