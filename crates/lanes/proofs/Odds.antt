-- The odd half of a DCT, and an input times a factor. Assumes nothing.
--     scaled_fits                   an input times a factor
--     odd_ok, odd-are, odd-of       one test of a table: the odd half exists and has room
--     odd-holds, odd_at             the sums of an odd half are the dense product of its rows; one of them
--     held, one-held                the numbers of known rows; the first output, stored at the front
--     QuarterOk, quarter-ok         the tests of the first four outputs
use mathlib.Core.Path.{◌≡◌, refl, sym, ap, ◌∙◌, subst}
use mathlib.Core.Bool.{Bool, ◌&&◌}
use mathlib.Core.Logic.{inl, inr}
use mathlib.Core.List.{List, [], ◌∷◌}
use Prim.Native.Nat.{ℕ, ◌+◌, ◌*◌, ◌^◌, ◌≤◌, ◌<◌}
use native.Mathlib.Nat as N
use native.Mathlib.Omega.{arith}
use lib.Dec.{T, eqb, eqb→eq, leb, ltb, ltb→lt}
use lib.IntN.{ℤ, pos, nat_abs, ◌*ℤ◌}
use lib.ListN.{length, get_or, set, take}
use mir.Syntax.{w32}
use mir.Val.{SFits}
use Rattle.whole.specs.Sums.{tab, dot_z, size_of, term_size, fold_row, unit}
use Rattle.whole.specs.Lanes.{col}
use Rattle.whole.specs.Parts.{place_at}
use Rattle.whole.proofs.Tests.{and_left, and_right, below, below_at}
use Rattle.whole.proofs.Size.{abs-mul, fits-size}
use Rattle.whole.proofs.Sums.{dot-mul, dot-unit}
use Rattle.whole.proofs.Fill.{tab-at}
use Rattle.whole.proofs.Butterfly.{Holds}
use Rattle.tables.proofs.LiveLanes.{first-put}
use Rattle.lanes.specs.Halves.{weight, odd_row, odds_of, half2, half4, first_row, Quarter, OddHalf}

-- ---- an input times a factor
pub scaled_fits : {a x f g : ℤ} → a ≡ x → nat_abs x ≤ 2 ^ 19 → f ≡ g → nat_abs g ≤ 512 → SFits w32 (a *ℤ f)
scaled_fits {a} {x} {f} {g} ea p ef q =
    subst (λ (z : ℤ). SFits w32 z) (sym (ap (λ z. z *ℤ f) ea ∙ ap (λ z. x *ℤ z) ef)) (fits-size (x *ℤ g) (N.lt_of_le_of_lt (N.le_trans (N.le_of_eq (abs-mul x g)) (N.mul-le-mul p q)) (omega arith)))

-- ---- one test of a table
abbrev pub odd_ok : ℕ → List ℤ → ℕ → ℕ → Bool
odd_ok h t start n = eqb (length t) (h * h) && (below (λ i. ltb (place_at start (start + start) i) n) h && below (λ m. ltb (term_size (weight h t m) h) 4096) h)

pub odd-are : (h : ℕ) (t : List ℤ) (start n : ℕ) → T (odd_ok h t start n) → OddHalf h t start n
odd-are h t start n ok =
    let r = and_right (eqb (length t) (h * h)) _ ok in
    record {
      square = eqb→eq (length t) (h * h) (and_left (eqb (length t) (h * h)) _ ok);
      inside = λ i l. ltb→lt _ n (below_at (λ j. ltb (place_at start (start + start) j) n) h (and_left (below (λ j. ltb (place_at start (start + start) j) n) h) _ r) i l);
      small = λ m l. ltb→lt _ 4096 (below_at (λ j. ltb (term_size (weight h t j) h) 4096) h (and_right (below (λ j. ltb (place_at start (start + start) j) n) h) _ r) m l);
    }

-- among the m inputs of a list
pub odd-of : (h : ℕ) (t : List ℤ) (start n : ℕ) {m : ℕ} → m ≡ n → T (odd_ok h t start n) → OddHalf h t start m
odd-of h t start n e ok = subst (λ (m : ℕ). OddHalf h t start m) (sym e) (odd-are h t start n ok)

pub odd_at : {h m : ℕ} → m < h → (t : List ℤ) (start : ℕ) (xs : List ℤ) {z : ℤ} → z ≡ dot_z (odd_row h t start m) xs → z ≡ get_or (odds_of h t start xs) m (pos 0)
odd_at {h} {m} l t start xs e = e ∙ sym (tab-at (pos 0) h (λ j. dot_z (odd_row h t start j) xs) m l)

pub odd-holds : (h : ℕ) (t : List ℤ) (start : ℕ) (xs : List ℤ) → Holds h (odd_row h t start) xs (odds_of h t start xs)
odd-holds h t start xs = record { is = refl }

-- ---- the numbers of known rows
pub held : {n : ℕ} (A : ℕ → List ℤ) {xs l : List ℤ} → l ≡ tab n (λ m. dot_z (A m) xs) → Holds n A xs l
held A e = record { is = e }

-- the first output, the record r stored at the front of es
pub one-held : {R : Type 0} (at : R → ℕ → ℤ) (es : List R) (r : R) (xs : List ℤ) (k : ℕ) → 1 ≤ length es → at r k ≡ get_or xs 0 (pos 0) *ℤ pos 64 → Holds 1 first_row xs (take 1 (col at k (set es 0 r)))
one-held at es r xs k h e = record {
  is = first-put at k es r h ∙ ap (λ z. z ∷ []) (e ∙ ap (λ z. z *ℤ pos 64) (sym (dot-unit 0 xs)) ∙ sym (dot-mul (unit 0) (pos 64) xs));
}

-- ---- the tests of the first four outputs
pub record QuarterOk (d n : ℕ) : Type 0 where
  pub two : OddHalf 1 half2 (d + d) n
  pub four : OddHalf 2 half4 d n
  pub fits2 : T (below (λ k. leb (size_of (first_row k) + size_of (odd_row 1 half2 (d + d) k)) 4095) 1)
  pub fits4 : T (below (λ k. leb (size_of (fold_row 1 first_row (odd_row 1 half2 (d + d)) k) + size_of (odd_row 2 half4 d k)) 4095) 2)

module _ {d n : ℕ} where
  at-quarter : (a b : ℕ) → d ≡ a → n ≡ b → QuarterOk a b → QuarterOk d n
  at-quarter a b e f q = subst (λ (x : ℕ). QuarterOk x n) (sym e) (subst (λ (y : ℕ). QuarterOk a y) (sym f) q)

  pub quarter-ok : Quarter d n → QuarterOk d n
  quarter-ok (inl (inl (e, f))) = at-quarter 1 4 e f (record { two = odd-are 1 half2 2 4 tt; four = odd-are 2 half4 1 4 tt; fits2 = tt; fits4 = tt })
  quarter-ok (inl (inr (e, f))) = at-quarter 2 8 e f (record { two = odd-are 1 half2 4 8 tt; four = odd-are 2 half4 2 8 tt; fits2 = tt; fits4 = tt })
  quarter-ok (inr (inl (e, f))) = at-quarter 4 16 e f (record { two = odd-are 1 half2 8 16 tt; four = odd-are 2 half4 4 16 tt; fits2 = tt; fits4 = tt })
  quarter-ok (inr (inr (e, f))) = at-quarter 8 32 e f (record { two = odd-are 1 half2 16 32 tt; four = odd-are 2 half4 8 32 tt; fits2 = tt; fits4 = tt })
