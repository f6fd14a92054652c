-- What a program writes for a number, read back. Assumes nothing.
--     read_back          as many digits as hold a number of at most 31 bits are that number
--     read-back-minus    with a '-' before them, they are what is as far below 0
--     written            printing writes as many digits as hold the number
--     written-back       what printing writes for a number of at most 31 bits is that number
--     written-back-minus    with a '-' before it, it is what is as far below 0
use mathlib.Core.Path.{◌≡◌, refl, sym, ap, subst, ◌∙◌}
use mathlib.Core.Bool.{true, false}
use mathlib.Core.List.{List, [], ◌∷◌, ◌++◌}
use Prim.Native.Nat.{ℕ, zero, suc, ◌+◌, ◌*◌, ◌-◌, ◌/◌, ◌%◌, ◌^◌, ◌≤◌, ◌<◌}
use native.Mathlib.Nat as N
use native.Mathlib.Omega.{arith}
use borrow.Author.Tests.{lt-ltb, le-leb, ne_eqb}
use lib.Dec.{eqb}
use lib.IntN.{pos, neg_ℤ}
use lib.ListN.{get_or}
use Rattle.std.specs.Fmt.{decimal}
use Rattle.std.proofs.lemmas.Fmt.{decimal_digit, decimal_step}
use Rattle.whole.proofs.Tests.{both, and-true}
use Rattle.words.specs.Digits.{last_digits, digit_code, IsDigitCount}
use Rattle.words.specs.Words.{digit, all_digits, value_of, size_from, size_of, signed_of, digits_of, is_number, number_of}
use Rattle.words.proofs.Decimals.{digit-range}

value-append : (v : ℕ) (xs ys : List ℕ) → value_of v (xs ++ ys) ≡ value_of (value_of v xs) ys
unfolding value_of
value-append v [] ys = refl
value-append v (x ∷ xs) ys = value-append (10 * v + (x - 48)) xs ys

all_append : (xs ys : List ℕ) → all_digits xs ≡ true → all_digits ys ≡ true → all_digits (xs ++ ys) ≡ true
unfolding all_digits
all_append [] ys e f = f
all_append (x ∷ xs) ys e f = let h = both (digit x) (all_digits xs) e in and-true h.0 (all_append xs ys h.1 f)

glyph-is : (n : ℕ) → digit_code (n % 10) ≡ 48 + n % 10
glyph-is n = rw (lt-ltb (n % 10) 10 (omega arith))

value_written : (k n : ℕ) → n < 10 ^ k → value_of 0 (last_digits 10 k n) ≡ n
unfolding value_of
value_written zero n h = omega arith
value_written (suc k) n h =
    value-append 0 (last_digits 10 k (n / 10)) (digit_code (n % 10) ∷ [])
    ∙ rw (value_written k (n / 10) (omega (arith, N.pow-suc 10 k)), glyph-is n) (omega arith)

all-written : (k n : ℕ) → all_digits (last_digits 10 k n) ≡ true
unfolding all_digits digit
all-written zero n = refl
all-written (suc k) n = all_append (last_digits 10 k (n / 10)) (digit_code (n % 10) ∷ []) (all-written k (n / 10)) (rw (glyph-is n, le-leb 48 (48 + n % 10) (omega arith), le-leb (48 + n % 10) 57 (omega arith)))

some : (bs : List ℕ) (b : ℕ) → size_of (bs ++ (b ∷ [])) ≡ size_from 0 (bs ++ (b ∷ []))
unfolding size_of
some [] b = refl
some (x ∷ bs) b = refl

no_sign : (bs : List ℕ) → all_digits bs ≡ true → (digits_of bs ≡ bs) × (eqb (get_or bs 0 0) 45 ≡ false)
unfolding digits_of all_digits
no_sign [] e = (refl, refl)
no_sign (b ∷ bs) e =
    let h = digit-range b (both (digit b) (all_digits bs) e).0 in
    let f : eqb b 45 ≡ false = ne_eqb b 45 (λ q. omega arith) in
    (rw f, f)

module _ (n k : ℕ) (few : IsDigitCount 10 1 n k) (small : n ≤ 2147483647) where
  from-written : size_from 0 (last_digits 10 k n) ≡ n
  unfolding size_from
  from-written = rw (all-written k n, value_written k n few.1, le-leb n 2147483647 small)

  size-written : size_of (last_digits 10 k n) ≡ n
  size-written = go k few.0 ∙ from-written
    where
      go : (k : ℕ) → 1 ≤ k → size_of (last_digits 10 k n) ≡ size_from 0 (last_digits 10 k n)
      go zero h = absurd (omega arith)
      go (suc k) h = some (last_digits 10 k (n / 10)) (digit_code (n % 10))

  pub read_back : (is_number (last_digits 10 k n) ≡ true) × (number_of (last_digits 10 k n) ≡ pos n)
  unfolding is_number number_of signed_of
  read_back =
      let h = no_sign (last_digits 10 k n) (all-written k n) in
      (rw (h.0, size-written, le-leb n 2147483647 small), rw (h.0, h.1, size-written))

  pub read-back-minus : (is_number (45 ∷ last_digits 10 k n) ≡ true) × (number_of (45 ∷ last_digits 10 k n) ≡ neg_ℤ (pos n))
  unfolding is_number number_of signed_of digits_of
  read-back-minus = (rw (size-written, le-leb n 2147483647 small), rw size-written)

one-digit : (n : ℕ) → n < 10 → digit_code (n % 10) ≡ 48 + n
one-digit n h = glyph-is n ∙ (let e : n % 10 ≡ n = omega arith in ap (λ d. 48 + d) e)

power : (k : ℕ) → 1 ≤ 10 ^ k
power zero = omega arith
power (suc k) = omega (arith, N.pow-suc 10 k, power k)

-- printing writes as many digits as hold the number
pub written : (k n : ℕ) → IsDigitCount 10 1 n k → n < 2 ^ 64 → decimal n ≡ last_digits 10 k n
written zero n few big = absurd (omega (arith, few.0))
written (suc zero) n few big =
    let h : n < 10 = omega (arith, few.1) in
    decimal_digit n h ∙ ap (λ d. d ∷ []) (sym (one-digit n h))
written (suc (suc k)) n few big =
    let p = N.pow-suc 10 k in
    let q = N.pow-suc 10 (suc k) in
    let one : 1 ≤ 10 ^ k = power k in
    let least : 10 ^ (suc k) ≤ n = let e : suc (suc k) - 1 ≡ suc k = omega arith in subst (λ (j : ℕ). 10 ^ j ≤ n) e (few.2 (omega arith)) in
    let h : 10 ≤ n = omega (arith, p) in
    let before : suc k - 1 ≡ k = omega arith in
    let fewer : IsDigitCount 10 1 (n / 10) (suc k) = (omega arith, omega (arith, few.1, q), λ t. subst (λ (j : ℕ). 10 ^ j ≤ n / 10) (sym before) (omega (arith, least, p))) in
    decimal_step n h big
    ∙ ap (λ ds. ds ++ ((48 + n % 10) ∷ [])) (written (suc k) (n / 10) fewer (omega arith))
    ∙ ap (λ d. last_digits 10 (suc k) (n / 10) ++ (d ∷ [])) (sym (glyph-is n))

module _ (n k : ℕ) (few : IsDigitCount 10 1 n k) (small : n ≤ 2147483647) where
  pub written-back : (is_number (decimal n) ≡ true) × (number_of (decimal n) ≡ pos n)
  written-back = rw (written k n few (omega arith)) (read_back n k few small)

  pub written-back-minus : (is_number (45 ∷ decimal n) ≡ true) × (number_of (45 ∷ decimal n) ≡ neg_ℤ (pos n))
  written-back-minus = rw (written k n few (omega arith)) (read-back-minus n k few small)
