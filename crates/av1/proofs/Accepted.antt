-- What no refusal before the first step tells. Assumes nothing.
--     length_most          a length that there is, is at most 64
--     low-size, high-size  the ends of at most 20 bits
--     Accepted, accepted   a verdict of Done before the first step: the bits, the lengths, and a bound on each number
use mathlib.Core.Path.{◌≡◌, refl, subst}
use mathlib.Core.Bool.{Bool, true, false, ◌&&◌, ◌||◌}
use mathlib.Core.List.{List}
use Prim.Native.Nat.{ℕ, ◌-◌, ◌^◌, ◌≤◌, ◌<◌}
use native.Mathlib.Nat.{le_trans, le_of_eq}
use native.Mathlib.Omega.{arith}
use borrow.Author.Tests.{leb-true, eqb-true}
use lib.Dec.{eqb, leb}
use lib.IntN.{ℤ, nat_abs}
use lib.ListN.{length}
use lib.Pow.{pow_mono}
use Rattle.whole.specs.Search.{seek}
use Rattle.whole.specs.Sums.{Within, item}
use Rattle.whole.proofs.Range.{in-range-size, lowest-size, highest-size}
use Rattle.whole.proofs.Search.{seek-passed}
use Rattle.whole.proofs.Tests.{both}
use Rattle.answers.proofs.Verdicts.{passed, search-passed}
use Rattle.av1.specs.Tables.{length_ok}
use Rattle.av1.specs.Calls.{low, high, number_ok, front}

either : (m : ℕ) (n : ℕ) (b : Bool) → m ≤ 64 → (b ≡ true → n ≤ 64) → (eqb n m || b) ≡ true → n ≤ 64
either m n b h f e = go (eqb n m) refl e
  where
    go : (q : Bool) → eqb n m ≡ q → (q || b) ≡ true → n ≤ 64
    go true p z = le_trans (le_of_eq (eqb-true n m p)) h
    go false p z = f z

pub length_most : (n : ℕ) → length_ok n ≡ true → n ≤ 64
length_most n e =
    either 4 n _ (omega arith) (λ a. either 8 n _ (omega arith) (λ b. either 16 n _ (omega arith) (λ c. either 32 n _ (omega arith) (λ d. le_of_eq (eqb-true n 64 d)) c) b) a) e

ends : (bits : ℕ) → bits ≤ 20 → 2 ^ (bits - 1) ≤ 2 ^ 19
ends bits h = let m : bits - 1 ≤ 19 = omega arith in pow_mono m

pub low-size : (bits : ℕ) → bits ≤ 20 → nat_abs (low bits) ≤ 2 ^ 19
low-size bits h = le_trans (le_of_eq (lowest-size (bits - 1))) (ends bits h)

pub high-size : (bits : ℕ) → bits ≤ 20 → nat_abs (high bits) ≤ 2 ^ 19
high-size bits h = le_trans (highest-size (bits - 1)) (ends bits h)

pub record Accepted (n bits : ℕ) (t : List ℤ) : Type 0 where
  pub least : 16 ≤ bits
  pub most : bits ≤ 20
  pub okay : length_ok n ≡ true
  pub upto : n ≤ 64
  pub long : length t ≡ n
  pub fits : (k : ℕ) → k < n → number_ok (low bits) (high bits) t k ≡ true
  pub small : Within (2 ^ 19) t

pub accepted : (n bits : ℕ) (t : List ℤ) → (front n bits t).number ≡ 0 → Accepted n bits t
unfolding front
accepted n bits t e =
    let p₁ = passed (leb 16 bits && leb bits 20) 0 0 0 _ e in
    let p₂ = passed (length_ok n) 1 0 0 _ p₁.1 in
    let p₃ = passed (eqb (length t) n) 5 1 0 _ p₂.1 in
    let p₄ = search-passed 14 0 n (λ k. k) (seek (number_ok (low bits) (high bits) t) 0 n) _ p₃.1 in
    let b = both (leb 16 bits) (leb bits 20) p₁.0 in
    let most = leb-true bits 20 b.1 in
    let long = eqb-true (length t) n p₃.0 in
    let fits = seek-passed (number_ok (low bits) (high bits) t) n p₄.0 in
    record {
      least = leb-true 16 bits b.0;
      most = most;
      okay = p₂.0;
      upto = length_most n p₂.0;
      long = long;
      fits = fits;
      small = λ k h. in-range-size (2 ^ 19) (low bits) (high bits) (item t k) (low-size bits most) (high-size bits most) (fits k (subst (λ (m : ℕ). k < m) long h));
    }
