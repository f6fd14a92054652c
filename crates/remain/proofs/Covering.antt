-- An index that is built from an empty one, the cells of one step after the other. Assumes nothing.
--     zeros                                    as many zeros, by a rule
--     Covered, covered_start, covered_more     a loop that has come to step i
use mathlib.Core.Path.{◌≡◌, refl, sym, ap, ◌∙◌}
use mathlib.Core.Bool.{cond}
use mathlib.Core.List.{List, ◌∷◌}
use Prim.Native.Nat.{ℕ, zero, suc, ◌+◌, ◌*◌, ◌≤◌, ◌<◌, zero-le}
use native.Mathlib.Numerals.{add-one}
use native.Mathlib.Omega.{arith}
use lib.ListN.{replicate}
use Rattle.whole.specs.Sums.{tab}
use Rattle.remain.specs.Remaining.{word, number_at, marks}
use Rattle.remain.specs.Touch.{last_touch, across, index_of, mended}
use Rattle.remain.proofs.Index.{mended-index}

pub zeros : (n : ℕ) → replicate {A = ℕ} n 0 ≡ tab n (λ _. 0)
zeros zero = refl
zeros (suc n) = ap (λ (l : List ℕ). 0 ∷ l) (zeros n)

pub record Covered (s : List ℕ) (width rows n : ℕ) (x : List ℕ) (i : ℕ) : Type 0 where
  pub most : i ≤ n
  pub is : x ≡ index_of width rows (marks s i)

module _ {s : List ℕ} {width rows n : ℕ} where
  pub covered_start : {x : List ℕ} → x ≡ tab (across rows * across width) (λ _. 0) → Covered s width rows n x 0
  unfolding last_touch
  covered_start e = record { most = zero-le; is = e }

  pub covered_more : {x y : List ℕ} {i : ℕ} → Covered s width rows n x i → i < n → word s i 3 + 4 ≤ width → word s i 2 + 4 ≤ rows
      → y ≡ mended (across width) (marks s (i + 1)) (word s i 2) (word s i 3) x → Covered s width rows n y (i + 1)
  unfolding last_touch
  covered_more {x} {y} {i} p h right low e =
      record {
        most = omega arith;
        is =
            e ∙ ap (λ ms. mended (across width) ms (word s i 2) (word s i 3) x) (ap (marks s) (add-one i))
            ∙ ap (mended (across width) (marks s (suc i)) (word s i 2) (word s i 3)) p.is
            ∙ mended-index width rows (word s i 2) (word s i 3) right low (marks s i) (marks s (suc i))
            (λ a b q. ap (λ t. cond t (number_at s i) (last_touch (a * 4) (b * 4) (marks s i))) q)
            ∙ sym (ap (λ m. index_of width rows (marks s m)) (add-one i));
      }
