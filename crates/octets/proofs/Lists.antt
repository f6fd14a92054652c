-- Lists of bytes and the lists of their numbers. Assumes nothing.
--     byte-plain               a number of 0 .. 255 has no sign, and is at most 255; byte-is: the other way
--     bytes-all                a byte is at most 255, past the list's end too
--     numbers-back, bytes_back     bytes to numbers and back; numbers without a sign to bytes and back
--     map-tab, map-set         a rule applied to a list made by a rule, and to a list with one element replaced
use mathlib.Core.Path.{◌≡◌, refl, sym, ap, subst}
use mathlib.Core.Bool.{true}
use mathlib.Core.List.{List, [], ◌∷◌, map}
use Prim.Native.Nat.{ℕ, zero, suc, ◌≤◌, ◌<◌, zero-le}
use native.Mathlib.Omega.{arith}
use borrow.Author.Tests.{leb-true, le-leb}
use lib.Dec.{T, leb}
use lib.IntN.{ℤ, pos, negsuc, nat_abs}
use lib.Signed.{non_neg, pos-nat_abs}
use lib.ListN.{length, get_or, set}
use Rattle.whole.specs.Sums.{tab}
use Rattle.whole.proofs.Tests.{both, and-true}
use Rattle.octets.specs.Octets.{Bytes, is_byte}

pub byte-plain : (z : ℤ) → is_byte z ≡ true → T (non_neg z) × (nat_abs z ≤ 255)
byte-plain (pos n) e = (tt, leb-true n 255 (both (leb 0 n) (leb n 255) e).1)
byte-plain (negsuc n) e = absurd (subst T (sym e) tt)

pub byte-is : (n : ℕ) → n ≤ 255 → is_byte (pos n) ≡ true
byte-is n h = and-true (le-leb 0 n zero-le) (le-leb n 255 h)

pub bytes-all : (p : List ℕ) → Bytes p → (i : ℕ) → get_or p i 0 ≤ 255
bytes-all [] h i = zero-le
bytes-all (n ∷ p) h zero = h 0 (omega arith)
bytes-all (n ∷ p) h (suc i) = bytes-all p (λ j l. h (suc j) (omega arith)) i

pub numbers-back : (b : List ℕ) → map nat_abs (map pos b) ≡ b
numbers-back [] = refl
numbers-back (n ∷ b) = ap (λ x. n ∷ x) (numbers-back b)

pub bytes_back : (p : List ℤ) → ((i : ℕ) → i < length p → T (non_neg (get_or p i (pos 0)))) → map pos (map nat_abs p) ≡ p
bytes_back [] h = refl
bytes_back (z ∷ p) h = λ i. pos-nat_abs z (h 0 (omega arith)) i ∷ bytes_back p (λ j l. h (suc j) (omega arith)) i

module _ {A B : Type 0} (f : A → B) where
  pub map-tab : (n : ℕ) (g : ℕ → A) → map f (tab n g) ≡ tab n (λ k. f (g k))
  map-tab zero g = refl
  map-tab (suc n) g = ap (λ l. f (g 0) ∷ l) (map-tab n (λ k. g (suc k)))

  pub map-set : (l : List A) (i : ℕ) (x : A) → map f (set l i x) ≡ set (map f l) i (f x)
  map-set [] i x = refl
  map-set (y ∷ l) zero x = refl
  map-set (y ∷ l) (suc i) x = ap (λ m. f y ∷ m) (map-set l i x)
