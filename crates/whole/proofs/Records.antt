-- Records that stand in a flat list, L numbers each, for any record: `at r k` is number k of r, and `mk f` is the record of the numbers f 0, f 1, .. Assumes nothing.
--     Have, lanes-have           what holds of n numbers and of those past them holds of all
--     from_is                    the place k after p
--     count-least, count_most    how many records a flat list has
--     col-tab                    the numbers k of records made by a rule
--     record-read, record-set    one record read, and one stored
use mathlib.Core.Path.{◌≡◌, refl, sym, ap, ◌∙◌, subst}
use mathlib.Core.List.{List, ◌∷◌}
use Prim.Native.Nat.{ℕ, zero, suc, ◌+◌, ◌*◌, ◌/◌, ◌≤◌, ◌<◌}
use native.Mathlib.Nat as N
use native.Mathlib.Omega.{arith}
use native.Mathlib.Decide.{ℕ_discrete}
use lib.IntN.{ℤ, pos}
use lib.ListN.{length, get_or, set, length-set}
use lib.Seq.{get_or-set_same, get_or-set_other}
use Rattle.whole.specs.Sums.{tab}
use Rattle.whole.specs.Lanes.{col, place_from, records_of, puts}
use Rattle.whole.proofs.Cells.{cell-inj}
use Rattle.whole.proofs.Fill.{length-tab, tab-at, tab-same, filled-all}
use Rattle.whole.proofs.Groups.{puts-length, puts-off, puts-at}

abbrev pub Have : (ℤ → Type 0) → ℕ → (ℕ → ℤ) → Type 0
Have P zero f = (k : ℕ) → P (f k)
Have P (suc n) f = P (f 0) × Have P n (λ k. f (suc k))

pub lanes-have : (P : ℤ → Type 0) (n : ℕ) (f : ℕ → ℤ) → Have P n f → (k : ℕ) → P (f k)
lanes-have P zero f p k = p k
lanes-have P (suc n) f p zero = p.0
lanes-have P (suc n) f p (suc k) = lanes-have P n (λ j. f (suc j)) p.1 k

pub from_is : (p k : ℕ) → place_from p k ≡ p + k
from_is p zero = omega arith
from_is p (suc k) = refl

pub col-tab : {R : Type 0} (at : R → ℕ → ℤ) (k n : ℕ) (g : ℕ → R) → col at k (tab n g) ≡ tab n (λ j. at (g j) k)
col-tab at k zero g = refl
col-tab at k (suc n) g = ap (λ l. at (g 0) k ∷ l) (col-tab at k n (λ j. g (suc j)))

module _ {R : Type 0} (L : ℕ) (some : 0 < L) (mk : (ℕ → ℤ) → R) where
  pub count-least : (xs : List ℤ) → L * length (records_of L mk xs) ≤ length xs
  count-least xs = subst (λ (n : ℕ). L * n ≤ length xs) (sym (length-tab (length xs / L) _)) (N.mul-div-le (length xs) L)

  pub count_most : (xs : List ℤ) → length xs < L * length (records_of L mk xs) + L
  count_most xs = subst (λ (n : ℕ). length xs < L * n + L) (sym (length-tab (length xs / L) _)) (omega (arith, N.lt-mul-div-succ (length xs) some, N.mul-add L (length xs / L) 1, N.mul-one L))

  module _ (xs : List ℤ) (j : ℕ) (h : L * j + L ≤ length xs) where
    inside : j < length xs / L
    inside = (N.le-div_iff_mul-le some).1 (omega (arith, h, N.suc-mul j L, N.mul_comm L j))

    -- number k of record j
    pub record-read : (at : R → ℕ → ℤ) (k : ℕ) → at (mk (λ i. get_or xs (place_from (L * j) i) (pos 0))) k ≡ get_or (col at k (records_of L mk xs)) j (pos 0)
    record-read at k = sym (ap (λ l. get_or l j (pos 0)) (col-tab at k (length xs / L) _) ∙ tab-at (pos 0) (length xs / L) _ j inside)

    -- `mk f` reads no number past the first L
    module _ (cut : (f : ℕ → ℤ) → mk f ≡ mk (λ k. get_or (tab L f) k (pos 0))) where
      same : (f g : ℕ → ℤ) → ((k : ℕ) → k < L → f k ≡ g k) → mk f ≡ mk g
      same f g e = cut f ∙ ap (λ l. mk (λ k. get_or l k (pos 0))) (tab-same L f g e) ∙ sym (cut g)

      pub record-set : (v : ℕ → ℤ) → records_of L mk (puts L (place_from (L * j)) v xs) ≡ set (records_of L mk xs) j (mk v)
      record-set v = ap (λ n. tab n new) (ap (λ n. n / L) long) ∙ sym (filled-all (mk v) (set (records_of L mk xs) j (mk v)) (length xs / L) new (length-set (records_of L mk xs) j (mk v) ∙ length-tab (length xs / L) old) (λ i q. at i q (ℕ_discrete i j)))
        where
          ys : List ℤ
          ys = puts L (place_from (L * j)) v xs

          old : ℕ → R
          old i = mk (λ k. get_or xs (place_from (L * i) k) (pos 0))

          new : ℕ → R
          new i = mk (λ k. get_or ys (place_from (L * i) k) (pos 0))

          long : length ys ≡ length xs
          long = puts-length (place_from (L * j)) v xs L

          -- the places of two records are apart
          apart : (i k l : ℕ) → k < L → l < L → place_from (L * i) k ≡ place_from (L * j) l → i ≡ j
          apart i k l a b e = (cell-inj i j a b (ap (λ z. z + k) (N.mul_comm i L) ∙ sym (from_is (L * i) k) ∙ e ∙ from_is (L * j) l ∙ ap (λ z. z + l) (N.mul_comm L j))).0

          step : (k l : ℕ) → place_from (L * j) k ≡ place_from (L * j) l → k ≡ l
          step k l e = N.add_left_cancel (L * j) (sym (from_is (L * j) k) ∙ e ∙ from_is (L * j) l)

          at : (i : ℕ) → i < length xs / L → Dec (i ≡ j) → get_or (set (records_of L mk xs) j (mk v)) i (mk v) ≡ new i
          at i q (yes e) =
              ap (λ z. get_or (set (records_of L mk xs) j (mk v)) z (mk v)) e ∙ get_or-set_same (records_of L mk xs) j (mk v) (mk v) (subst (λ (n : ℕ). j < n) (sym (length-tab (length xs / L) old)) inside)
              ∙ sym (same (λ k. get_or ys (place_from (L * j) k) (pos 0)) v (λ k a. puts-at (place_from (L * j)) v xs L (λ l b. subst (λ (z : ℕ). z < length xs) (sym (from_is (L * j) l)) (omega (arith, h, b))) (λ l m b c w. step l m w) k a)) ∙ ap new (sym e)
          at i q (no e) =
              get_or-set_other (records_of L mk xs) j i (mk v) (mk v) e ∙ tab-at (mk v) (length xs / L) old i q
              ∙ sym (same (λ k. get_or ys (place_from (L * i) k) (pos 0)) (λ k. get_or xs (place_from (L * i) k) (pos 0)) (λ k a. puts-off (place_from (L * j)) v xs L (place_from (L * i) k) (λ l b w. e (apart i k l a b w))))
