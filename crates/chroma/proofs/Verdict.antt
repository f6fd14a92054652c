-- What an answer of Done tells the work: no refusal applies, so the numbers have their sizes. Assumes nothing.
--     Accepted     the depth, the lengths, and a bound on each number
--     accepted, accepted-done     a verdict of Done gives it
use mathlib.Core.Path.{◌≡◌, sym, ap}
use mathlib.Core.Bool.{true}
use mathlib.Core.List.{List}
use Prim.Native.Nat.{ℕ, ◌+◌, ◌^◌, ◌≤◌, ◌<◌}
use native.Mathlib.Nat.{le_trans, le_of_eq}
use native.Mathlib.Omega.{arith}
use borrow.Author.Tests.{leb-true, eqb-true}
use lib.Dec.{lit≤, leb}
use lib.IntN.{ℤ, pos, negsuc, nat_abs}
use lib.ListN.{length}
use lib.Pow.{pow_mono}
use Rattle.whole.specs.Numbers.{in_range}
use Rattle.whole.specs.Search.{seek}
use Rattle.whole.specs.Sums.{Within, item}
use Rattle.whole.proofs.Range.{in-range-size, lowest-size, highest-size}
use Rattle.whole.proofs.Search.{seek-passed}
use Rattle.whole.proofs.Tests.{both}
use Rattle.answers.specs.declared.Answer.{Answer}
use Rattle.answers.specs.Answers.{done}
use Rattle.answers.proofs.Verdicts.{passed, search-passed}
use Rattle.chroma.specs.Chroma.{low, high, pair_ok, angle_ok, bad_of, first_bad, verdict}

pub record Accepted (u v : List ℤ) (s c : ℤ) (depth : ℕ) : Type 0 where
  pub most : depth ≤ 12
  pub same : length u ≡ length v
  pub sine : nat_abs s ≤ 256
  pub cosine : nat_abs c ≤ 256
  pub size-u : Within (2 ^ 19) u
  pub size-v : Within (2 ^ 19) v

angle-size : (z : ℤ) → angle_ok z ≡ true → nat_abs z ≤ 256
angle-size z e = in-range-size 256 (negsuc 255) (pos 256) z (lit≤ tt) (lit≤ tt) e

pair_size : (depth : ℕ) (z : ℤ) → depth ≤ 12 → in_range (low depth) (high depth) z ≡ true → nat_abs z ≤ 2 ^ 19
pair_size depth z h e =
    let n : depth + 7 ≤ 19 = omega arith in
    let m : 2 ^ (depth + 7) ≤ 2 ^ 19 = pow_mono n in
    in-range-size (2 ^ 19) (low depth) (high depth) z (le_trans (le_of_eq (lowest-size (depth + 7))) m) (le_trans (highest-size (depth + 7)) m) e

pairs : (u v : List ℤ) (depth : ℕ) → length u ≤ seek (pair_ok (low depth) (high depth) u v) 0 (length u) → (k : ℕ) → k < length u → (in_range (low depth) (high depth) (item u k) ≡ true) × (in_range (low depth) (high depth) (item v k) ≡ true)
pairs u v depth h k l = both _ _ (seek-passed (pair_ok (low depth) (high depth) u v) (length u) h k l)

pub accepted : (u v : List ℤ) (s c : ℤ) (depth : ℕ) → (verdict u v s c depth).number ≡ 0 → Accepted u v s c depth
unfolding verdict
accepted u v s c depth e =
    let p₁ = passed _ _ _ _ _ e in
    let p₂ = passed _ _ _ _ _ p₁.1 in
    let p₃ = search-passed 6 (bad_of (low depth) (high depth) u (first_bad u v depth)) (length u) (λ k. k) (first_bad u v depth) _ p₂.1 in
    let p₄ = passed _ _ _ _ _ p₃.1 in
    let p₅ = passed _ _ _ _ _ p₄.1 in
    let most = leb-true depth 12 (both (leb 8 depth) (leb depth 12) p₁.0).1 in
    let same = eqb-true (length u) (length v) p₂.0 in
    let pair = pairs u v depth p₃.0 in
    record {
      most = most;
      same = same;
      sine = angle-size s p₄.0;
      cosine = angle-size c p₅.0;
      size-u = λ k h. pair_size depth (item u k) most (pair k h).0;
      size-v = λ k h. pair_size depth (item v k) most (pair k (omega arith)).1;
    }

-- the same of a verdict that is Done
pub accepted-done : {u v : List ℤ} {s c : ℤ} {depth : ℕ} → done ≡ verdict u v s c depth → Accepted u v s c depth
accepted-done {u} {v} {s} {c} {depth} e = accepted u v s c depth (ap (λ (a : Answer). a.number) (sym e))
