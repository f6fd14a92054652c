-- Lists of sixteen: what an answer of Done tells of them, and how they are stored. Assumes nothing.
--     all_small, accepted               a verdict of Done: both lists have sixteen numbers, those to read within their bound
--     passes-by                         whether a search finds nothing, by its test
--     put16                             four stores of four numbers leave the block, row by row
--     levels-bound, residuals-bound     how large the results of accepted lists are
use mathlib.Core.Path.{◌≡◌, refl, sym, ap, ◌∙◌, subst}
use mathlib.Core.Bool.{Bool, true, false, not}
use mathlib.Core.List.{List}
use Prim.Native.Nat.{ℕ, ◌≤◌, ◌<◌}
use native.Mathlib.Nat.{le_of_eq}
use native.Mathlib.Omega.{arith}
use borrow.Author.Tests.{eqb-true, le-leb, lt-leb}
use lib.Dec.{eqb, leb}
use lib.IntN.{ℤ, pos, nat_abs}
use lib.ListN.{length, get_or}
use Rattle.std.specs.Prelude.{Option, Some, None, is_some}
use Rattle.answers.specs.Answers.{done, refused, unless}
use Rattle.answers.proofs.Verdicts.{passed, search-passed}
use Rattle.whole.specs.Search.{seek}
use Rattle.whole.proofs.Range.{in-range-size}
use Rattle.whole.proofs.Search.{seek-passed}
use Rattle.ranges.specs.Cells.{Finds}
use Rattle.wht.specs.declared.blocks.Block.{Block}
use Rattle.wht.specs.Calls.{Sixteen, number_ok, outside, verdict}
use Rattle.wht.specs.Stores.{put4}
use Rattle.wht.specs.Wht.{flat, fwht, iwht}
use Rattle.wht.proofs.Inverse.{flat_block, fwht-length, iwht-length}
use Rattle.wht.proofs.Size.{fwht-size, iwht-size}

module _ (B : ℕ) (lo hi : ℤ) (low : nat_abs lo ≤ B) (high : nat_abs hi ≤ B) (l : List ℤ) where
  pub all_small : length l ≡ 16 → 16 ≤ seek (number_ok lo hi l) 0 16 → Sixteen B l
  all_small e h =
      record { count = e; small = λ k i. in-range-size B lo hi (get_or l k (pos 0)) low high (seek-passed (number_ok lo hi l) 16 h k (subst (λ (n : ℕ). k < n) e i)) }

  pub accepted : (n : ℕ) → (verdict lo hi l n).number ≡ 0 → Sixteen B l × (n ≡ 16)
  accepted n e =
      let p = passed (eqb (length l) 16) 5 1 0 (unless (eqb n 16) (refused 6 3 0) (outside lo hi l)) e in
      let m = passed (eqb n 16) 5 3 0 (outside lo hi l) p.1 in
      let q = search-passed 6 1 16 (λ k. k) (seek (number_ok lo hi l) 0 16) done m.1 in
      (all_small (eqb-true (length l) 16 p.0) q.0, eqb-true n 16 m.0)

twice : (b : Bool) → not (not b) ≡ b
twice true = refl
twice false = refl

module _ (ok : ℕ → Bool) (n : ℕ) where
  found-none : (r : Option ℕ) → Finds ok n r → is_some r ≡ not (leb n (seek ok 0 n))
  found-none None f = ap not (sym (le-leb n (seek ok 0 n) (le_of_eq (sym f))))
  found-none (Some k) f = ap not (sym (lt-leb n (seek ok 0 n) (omega (arith, f.0, f.1))))

  pub passes-by : (r : Option ℕ) {b : Bool} → Finds ok n r → is_some r ≡ not b → b ≡ leb n (seek ok 0 n)
  passes-by r {b} f e = sym (twice b) ∙ ap not (sym e ∙ found-none r f) ∙ twice (leb n (seek ok 0 n))

pub put16 : (l : List ℤ) → length l ≡ 16 → (m : Block) → put4 (put4 (put4 (put4 l 0 m.0) 4 m.1) 8 m.2) 12 m.3 ≡ flat m
put16 l h m = ap (λ x. put4 (put4 (put4 (put4 x 0 m.0) 4 m.1) 8 m.2) 12 m.3) (sym (flat_block l h))

pub levels-bound : {l : List ℤ} → Sixteen 65535 l → Sixteen 262140 (fwht l)
levels-bound {l} s = record { count = fwht-length l; small = λ k h. fwht-size l s.small k }

pub residuals-bound : {l : List ℤ} → Sixteen 262144 l → Sixteen 1048576 (iwht l)
residuals-bound {l} s = record { count = iwht-length l; small = λ k h. iwht-size l s.small k }
