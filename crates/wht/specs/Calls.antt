-- The two transforms as calls on lent slices. Definitions only; from document 01, "Refusal numbers", and document 02, section 6.
-- Slice 1 is the list that is read, slice 3 the one that is written.
--     number_ok lo hi l k       number k of l lies in lo .. hi
--     outside lo hi l          refusal 7 at the first of sixteen numbers outside lo .. hi
--     verdict lo hi l n        6 unless l has sixteen numbers, 6 unless the slice to write has, then 7
--     fwht_of, iwht_of           the answer, and what the slice to write holds then
--     Sixteen B l              what an accepted list is: sixteen numbers of size at most B
use Rattle.std.specs.Prelude.{◌≡◌, Bool, List, ℕ, eqb, ℤ, pos, neg_ℤ, length, get_or}
use Rattle.answers.specs.declared.Answer.{Answer}
use Rattle.answers.specs.Answers.{done, refused, unless, searched, ends}
use Rattle.whole.specs.Numbers.{in_range}
use Rattle.whole.specs.Search.{seek}
use Rattle.whole.specs.Sums.{Within}
use Rattle.wht.specs.Wht.{fwht, iwht}

abbrev pub number_ok : ℤ → ℤ → List ℤ → ℕ → Bool
number_ok lo hi l k = in_range lo hi (get_or l k (pos 0))

abbrev pub outside : ℤ → ℤ → List ℤ → Answer
outside lo hi l = searched 7 1 16 (λ k. k) (seek (number_ok lo hi l) 0 16) done

abbrev pub verdict : ℤ → ℤ → List ℤ → ℕ → Answer
verdict lo hi l n =
    unless (eqb (length l) 16) (refused 6 1 0)
    (unless (eqb n 16) (refused 6 3 0)
    (outside lo hi l))

unfoldable pub fwht_of : List ℤ → List ℤ → Answer × List ℤ
fwht_of resid level = ends (verdict (neg_ℤ (pos 65535)) (pos 65535) resid (length level)) level (fwht resid)

unfoldable pub iwht_of : List ℤ → List ℤ → Answer × List ℤ
iwht_of level resid = ends (verdict (neg_ℤ (pos 262144)) (pos 262144) level (length resid)) resid (iwht level)

pub record Sixteen (B : ℕ) (l : List ℤ) : Type 0 where
  pub count : length l ≡ 16
  pub small : Within B l
