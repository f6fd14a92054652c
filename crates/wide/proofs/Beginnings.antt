-- Rows of the first four inputs, one after another, and what that makes of the lines. Assumes nothing.
--     begun-none, begun-on     no row is begun yet; one row more
--     begun, begun-room          all rows are begun: the dense product of four inputs, and its bound
--     begun-front                the dense product of inputs that are zero past the fourth
use mathlib.Core.Path.{◌≡◌, refl, sym, ap, ◌∙◌, subst}
use mathlib.Core.List.{List, [], ◌∷◌, ◌++◌}
use Prim.Native.Nat.{ℕ, zero, suc, ◌+◌, ◌*◌, ◌-◌, ◌^◌, ◌≤◌, ◌<◌, zero-le, suc-le-suc}
use native.Mathlib.Nat as N
use native.Mathlib.Decide.{ℕ_discrete}
use native.Mathlib.Numerals.{add-one}
use native.Mathlib.Omega.{arith}
use lib.Arith.{lt_of_le-ne}
use lib.IntN.{ℤ, pos, nat_abs, ◌+ℤ◌, ◌-ℤ◌, ◌*ℤ◌, +ℤ_idl, *ℤ-zero}
use lib.ListN.{length, get_or, take}
use Rattle.whole.specs.Sums.{tab, dot_z, col_at, fold_row, scatter}
use Rattle.whole.proofs.Fill.{tab-same}
use Rattle.whole.proofs.Butterfly.{scatter-dot}
use Rattle.wide_rows.specs.Lines.{line, taps, evens, odds, Room, Start, Begun, Silent}
use Rattle.wide_rows.proofs.Taps.{even-taps, odd-taps}
use Rattle.wide.proofs.Folds.{folded, all_small}

-- ---- row after row
module _ {s d h : ℕ} {t w : List ℤ} where
  pub begun-none : {out : List ℤ} → Begun s d h 0 t w out out
  begun-none = record { long = refl; sums = λ l r k q. absurd (N.not-suc-le-zero q); differences = λ l r k q. absurd (N.not-suc-le-zero q); small = λ l r k q. absurd (N.not-suc-le-zero q) }

  begun_more : {i : ℕ} {old cur new : List ℤ} → Begun s d h i t w old cur → i < h → Start s d i (h + h - 1 - i) w t cur new → Begun s d h (suc i) t w old new
  begun_more {i} {old} {cur} {new} p ih q = record {
    long = q.0.long ∙ p.long;
    sums = λ l r k y. sum l r k y (ℕ_discrete r i);
    differences = λ l r k y. difference l r k y (ℕ_discrete r i);
    small = λ l r k y. bound l r k y (ℕ_discrete r i);
  }
    where
      back : (r : ℕ) → r < h → h + h - 1 - r ≡ h + h - 1 - i → i ≡ r
      back r f e = omega arith

      E : ℕ → ℕ → ℤ
      E l r = dot_z (evens s t r) (taps 2 l (d + d) w)

      O : ℕ → ℕ → ℤ
      O l r = dot_z (odds s t r) (taps 2 (l + d) (d + d) w)

      sum : (l r : ℕ) → l < 16 → r < suc i → Dec (r ≡ i) → line new l r ≡ E l r +ℤ O l r
      sum l r k y (yes e) = subst (λ (j : ℕ). line new l j ≡ E l j +ℤ O l j) (sym e) (q.0.low l k)
      sum l r k y (no e) = q.0.others l r k e (λ x. omega arith) ∙ p.sums l r k (lt_of_le-ne (omega arith) e)

      difference : (l r : ℕ) → l < 16 → r < suc i → Dec (r ≡ i) → line new l (h + h - 1 - r) ≡ E l r -ℤ O l r
      difference l r k y (yes e) = subst (λ (j : ℕ). line new l (h + h - 1 - j) ≡ E l j -ℤ O l j) (sym e) (q.0.high l k)
      difference l r k y (no e) = q.0.others l (h + h - 1 - r) k (λ x. omega arith) (λ x. e (sym (back r (omega arith) x))) ∙ p.differences l r k (lt_of_le-ne (omega arith) e)

      bound : (l r : ℕ) → l < 16 → r < suc i → Dec (r ≡ i) → nat_abs (E l r) + nat_abs (O l r) ≤ 2 ^ 24 + 1 * 2 ^ 26
      bound l r k y (yes e) = subst (λ (j : ℕ). nat_abs (E l j) + nat_abs (O l j) ≤ 2 ^ 24 + 1 * 2 ^ 26) (sym e) (omega (arith, q.1 l k, q.2 l k))
      bound l r k y (no e) = p.small l r k (lt_of_le-ne (omega arith) e)

  -- the same, counted as a loop counts
  pub begun-on : {i : ℕ} {old cur new : List ℤ} → Begun s d h i t w old cur → i < h → Start s d i (h + h - 1 - i) w t cur new → Begun s d h (i + 1) t w old new
  begun-on {i} {old = old} {new = new} p ih q = subst (λ (n : ℕ). Begun s d h n t w old new) (sym (add-one i)) (begun_more p ih q)

-- ---- all rows are begun
module _ (s d h : ℕ) (t w old new : List ℤ) (q : Begun s d h h t w old new) where
  abbrev first : ℕ → List ℤ
  first m = scatter (evens s t m) (λ i. i + i)

  abbrev second : ℕ → List ℤ
  second m = scatter (odds s t m) (λ i. i + i + 1)

  pub begun : (l : ℕ) → l < 16 → tab (h + h) (line new l) ≡ tab (h + h) (λ k. dot_z (fold_row h first second k) (taps 4 l d w))
  begun l k =
      folded h first second (taps 4 l d w) (line new l)
      (λ r y. q.sums l r k y ∙ ap (λ z. z +ℤ dot_z (odds s t r) (taps 2 (l + d) (d + d) w)) (low r) ∙ ap (λ z. dot_z (first r) (taps 4 l d w) +ℤ z) (odd r))
      (λ r y. q.differences l r k y ∙ ap (λ z. z -ℤ dot_z (odds s t r) (taps 2 (l + d) (d + d) w)) (low r) ∙ ap (λ z. dot_z (first r) (taps 4 l d w) -ℤ z) (odd r))
    where
      low : (r : ℕ) → dot_z (evens s t r) (taps 2 l (d + d) w) ≡ dot_z (first r) (taps 4 l d w)
      low r = ap (dot_z (evens s t r)) (even-taps 2 4 (N.le_refl 4) l d w) ∙ scatter-dot 2 (evens s t r) (λ i. i + i) (taps 4 l d w) (N.le_refl 2)

      odd : (r : ℕ) → dot_z (odds s t r) (taps 2 (l + d) (d + d) w) ≡ dot_z (second r) (taps 4 l d w)
      odd r = ap (dot_z (odds s t r)) (odd-taps 2 4 (N.le_refl 4) l d w (l + d) refl) ∙ scatter-dot 2 (odds s t r) (λ i. i + i + 1) (taps 4 l d w) (N.le_refl 2)

pub begun-room : {s d h : ℕ} {t w old new : List ℤ} → Begun s d h h t w old new → Room 1 0 (h + h) new
begun-room {s} {d} {h} {t} {w} {new = new} q l r k x y =
    all_small h (2 ^ 24 + 1 * 2 ^ 26) (line new l) (λ m. dot_z (evens s t m) (taps 2 l (d + d) w)) (λ m. dot_z (odds s t m) (taps 2 (l + d) (d + d) w))
    (λ j z. q.small l j k z) (λ j z. q.sums l j k z) (λ j z. q.differences l j k z) r y

-- ---- inputs past the fourth are zero
zero-dot : (w : List ℤ) (k p : ℕ) → ((i : ℕ) → i < k → get_or w (p + i * 16) (pos 0) ≡ pos 0) → (r : List ℤ) → dot_z r (taps k p 16 w) ≡ pos 0
zero-dot w zero p h [] = refl
zero-dot w zero p h (a ∷ r) = refl
zero-dot w (suc k) p h [] = refl
zero-dot w (suc k) p h (a ∷ r) =
    ap (λ z. a *ℤ z +ℤ dot_z r (taps k (p + 16) 16 w)) (ap (λ q. get_or w q (pos 0)) (start p) ∙ h 0 (suc-le-suc zero-le)) ∙ ap (λ z. z +ℤ dot_z r (taps k (p + 16) 16 w)) (*ℤ-zero a) ∙ +ℤ_idl (dot_z r (taps k (p + 16) 16 w))
    ∙ zero-dot w k (p + 16) (λ i q. ap (λ z. get_or w z (pos 0)) (next i p) ∙ h (suc i) (suc-le-suc q)) r
  where
    start : (p : ℕ) → p ≡ p + 0 * 16
    start p = omega arith

    next : (i p : ℕ) → p + 16 + i * 16 ≡ p + suc i * 16
    next i p = omega arith

dot-front : (r xs ys : List ℤ) → ((s : List ℤ) → dot_z s ys ≡ pos 0) → dot_z r (xs ++ ys) ≡ dot_z (take (length xs) r) xs
dot-front [] [] ys z = refl
dot-front [] (x ∷ xs) ys z = refl
dot-front (a ∷ r) [] ys z = z (a ∷ r)
dot-front (a ∷ r) (x ∷ xs) ys z = ap (λ q. a *ℤ x +ℤ q) (dot-front r xs ys z)

front-only : (k : ℕ) (t w new : List ℤ) (rows : ℕ → List ℤ) → Silent (4 + k) 4 w
    → ((l : ℕ) → l < 16 → tab (4 + k) (line new l) ≡ tab (4 + k) (λ m. dot_z (rows m) (taps 4 l 16 w)))
    → ((xs : List ℤ) → tab (4 + k) (λ m. dot_z (rows m) xs) ≡ tab (4 + k) (λ m. dot_z (take 4 (col_at (4 + k) t m)) xs))
    → (l : ℕ) → l < 16 → tab (4 + k) (line new l) ≡ tab (4 + k) (λ m. dot_z (col_at (4 + k) t m) (taps 4 l 16 w ++ taps k (l + 16 + 16 + 16 + 16) 16 w))
front-only k t w new rows s p e l h =
    p l h ∙ e (taps 4 l 16 w)
    ∙ tab-same (4 + k) (λ m. dot_z (take 4 (col_at (4 + k) t m)) (taps 4 l 16 w)) (λ m. dot_z (col_at (4 + k) t m) (taps 4 l 16 w ++ taps k (l + 16 + 16 + 16 + 16) 16 w))
    (λ m q. sym (dot-front (col_at (4 + k) t m) (taps 4 l 16 w) (taps k (l + 16 + 16 + 16 + 16) 16 w) (zero-dot w k (l + 16 + 16 + 16 + 16) (λ i y. ap (λ z. get_or w z (pos 0)) (place i) ∙ s l (4 + i) h (omega arith) (omega arith)))))
  where
    place : (i : ℕ) → l + 16 + 16 + 16 + 16 + i * 16 ≡ (4 + i) * 16 + l
    place i = omega arith

pub begun-front : (k h : ℕ) (t w : List ℤ) {old new : List ℤ} → h + h ≡ 4 + k → Silent (4 + k) 4 w → Begun (4 + k) 16 h h t w old new
    → ((xs : List ℤ) → tab (4 + k) (λ m. dot_z (fold_row h (λ j. scatter (evens (4 + k) t j) (λ i. i + i)) (λ j. scatter (odds (4 + k) t j) (λ i. i + i + 1)) m) xs) ≡ tab (4 + k) (λ m. dot_z (take 4 (col_at (4 + k) t m)) xs))
    → (l : ℕ) → l < 16 → tab (4 + k) (line new l) ≡ tab (4 + k) (λ m. dot_z (col_at (4 + k) t m) (taps 4 l 16 w ++ taps k (l + 16 + 16 + 16 + 16) 16 w))
begun-front k h t w {old} {new} e s q same =
    front-only k t w new rows s (λ l z. subst (λ (n : ℕ). tab n (line new l) ≡ tab n (λ m. dot_z (rows m) (taps 4 l 16 w))) e (begun (4 + k) 16 h t w old new q l z)) same
  where
    rows : ℕ → List ℤ
    rows m = fold_row h (λ j. scatter (evens (4 + k) t j) (λ i. i + i)) (λ j. scatter (odds (4 + k) t j) (λ i. i + i + 1)) m
