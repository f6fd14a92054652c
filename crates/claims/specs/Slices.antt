-- Which slice an answer names, by its number, from document 02, section 6. Definitions only.
-- 0 none, 1 coefficients or levels (residuals for the forward WHT), 2 prediction or plane, 3 output, 4 first chroma, 5 second chroma.
--     by number six seven other      6 names `six`, 7 names `seven`, a number of `other` names 2, any other number (Done among them) names none
--     add_slice, float_slice           the pixel calls: 6 names the lowest that is short
--     chroma_slice                    6 names the shorter; 7 the list that is out of range at the pair: 4 where u is, also where both are
--     wht_slice                       6 names the lowest that hasn't sixteen numbers: 1 is read, 3 written
--     step_slice                      6 names the levels where they aren't sixteen, else the plane
use Rattle.std.specs.Prelude.{Bool, cond, ◌||◌, List, ℕ, ◌*◌, eqb, leb, ltb, ℤ, length}
use Rattle.whole.specs.Sums.{item}
use Rattle.whole.specs.Numbers.{in_range}
use Rattle.tables.specs.Sizes.{cut}
use Rattle.verdicts.specs.Verdicts.{w_of, h_of}
use Rattle.chroma.specs.Chroma.{low, high}
use Rattle.lossless.specs.Step.{Step}

-- the slices of 6 and of 7; 8 and 10 are about the prediction or plane
abbrev pub by_number : ℕ → ℕ → ℕ → ℕ
by_number six seven n = cond (eqb n 6) six (cond (eqb n 7) seven (cond (eqb n 8 || eqb n 10) 2 0))

abbrev pub enough : ℕ → List ℤ → Bool
enough tx cs = leb (cut (w_of tx) * cut (h_of tx)) (length cs)

abbrev pub add_slice : List ℤ → ℕ → ℕ → ℕ
add_slice cs tx = by_number (cond (enough tx cs) 2 1) 1

abbrev pub float_slice : List ℤ → List ℤ → ℕ → ℕ → ℕ
float_slice cs pred tx = by_number (cond (enough tx cs) (cond (leb (h_of tx * w_of tx) (length pred)) 3 2) 1) 1

abbrev pub chroma_slice : List ℤ → List ℤ → ℕ → ℕ → ℕ → ℕ
chroma_slice u v depth place = by_number (cond (ltb (length u) (length v)) 4 5) (cond (in_range (low depth) (high depth) (item u place)) 5 4)

abbrev pub wht_slice : List ℤ → ℕ → ℕ
wht_slice l = by_number (cond (eqb (length l) 16) 3 1) 1

abbrev pub step_slice : Step → ℕ → ℕ
step_slice s = by_number (cond (eqb (length s.levels) 16) 2 1) 1
