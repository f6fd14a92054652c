-- Records read from a list, for any record: `at r k` is number k of the record r. Assumes nothing.
--     col-read, -at       a record that is read has the columns' numbers
--     col-take            the columns of the first records
use mathlib.Core.Path.{◌≡◌, refl, ap, ◌∙◌}
use mathlib.Core.List.{List, [], ◌∷◌}
use Prim.Native.Nat.{ℕ, zero, suc, ◌<◌}
use native.Mathlib.Nat as N
use lib.IntN.{ℤ, pos}
use lib.ListN.{length, get_or, take}
use Rattle.whole.specs.Lanes.{col}

module _ {R : Type 0} (at : R → ℕ → ℤ) where
  pub col-read : (ls : List R) {i : ℕ} {r : R} → i < length ls → r ≡ get_or ls i r → (k : ℕ) → at r k ≡ get_or (col at k ls) i (pos 0)
  col-read [] h e k = absurd (N.not-suc-le-zero h)
  col-read (x ∷ ls) {i = zero} h e k = ap (λ y. at y k) e
  col-read (x ∷ ls) {i = suc i} h e k = col-read ls {i = i} (N.le_of_suc-le-suc h) e k

  -- read at a place that is written another way
  pub col-read-at : (ls : List R) {i j : ℕ} {r : R} → i < length ls → j ≡ i → r ≡ get_or ls j r → (k : ℕ) → at r k ≡ get_or (col at k ls) i (pos 0)
  col-read-at ls {r = r} h e f = col-read ls h (f ∙ ap (λ p. get_or ls p r) e)

  pub col-take : (n k : ℕ) (ls : List R) → col at k (take n ls) ≡ take n (col at k ls)
  col-take zero k ls = refl
  col-take (suc n) k [] = refl
  col-take (suc n) k (r ∷ ls) = ap (λ l. at r k ∷ l) (col-take n k ls)
