-- The lossless step and its undo, on a plane of whole numbers. Definitions only; from document 01, "Chroma pairs and WHT" and "Refusal numbers",
-- and document 02, section 2: of each line, stride samples long, the first width ones are visible, and a block lies among those;
-- section 6: slice 1 is the levels, slice 2 the plane.
--     Where, Step             the arguments of a call: where the block stands, and its levels
--     spot w k                the index in the plane of the block's sample k, row by row
--     front n s               the refusals 1, 5, 6 and 7, on a plane of n samples
--     gain_of p s g            the answer, and the plane as it is left, where the block's samples are to gain g
--     step_of, undo_of          each sample gains its residual, with no clamp; loses it
use Rattle.std.specs.Prelude.{Bool, ◌&&◌, List, map, ℕ, ◌+◌, ◌*◌, leb, eqb, ℤ, pos, neg_ℤ, length}
use Rattle.whole.specs.Sums.{item}
use Rattle.answers.specs.declared.Answer.{Answer}
use Rattle.answers.specs.Answers.{refused, unless}
use Rattle.whole.specs.Numbers.{in_range, highest}
use Rattle.whole.specs.Search.{cell_at}
use Rattle.wht.specs.Wht.{iwht}
use Rattle.wht.specs.Calls.{outside}
use Rattle.lossless.specs.Gains.{gaining}

pub record Where : Type 0 where
  pub depth : ℕ
  pub stride : ℕ
  pub width : ℕ
  pub row : ℕ
  pub column : ℕ

pub record Step : Type 0 where
  pub at : Where
  pub levels : List ℤ

abbrev pub place : ℕ → ℕ → ℕ → ℕ → ℕ → Where
place d t w r c = record { depth = d; stride = t; width = w; row = r; column = c }

abbrev pub attempt : ℕ → ℕ → ℕ → ℕ → ℕ → List ℤ → Step
attempt d t w r c l = record { at = place d t w r c; levels = l }

abbrev pub spot : Where → ℕ → ℕ
spot w = cell_at (w.row * w.stride + w.column) w.stride 4

-- 0 to 2^depth - 1
abbrev pub sample : ℕ → ℤ → Bool
sample depth = in_range (pos 0) (highest depth)

-- ---- the tests of 1, 5 and 6
abbrev pub deep : Where → Bool
deep w = leb 8 w.depth && leb w.depth 12

abbrev pub strides : Where → Bool
strides w = leb 4 w.stride && leb w.stride 65536

abbrev pub widths : Where → Bool
widths w = leb 4 w.width && leb w.width w.stride

abbrev pub fits : Where → ℕ → Bool
fits w n = leb w.row 65535 && (leb (w.column + 4) w.width && leb ((w.row + 3) * w.stride + w.column + 4) n)

unfoldable pub front : ℕ → Step → Answer
front n s =
    unless (deep s.at) (refused 1 0 0)
    (unless (strides s.at) (refused 5 0 0)
    (unless (widths s.at) (refused 5 0 0)
    (unless (eqb (length s.levels) 16) (refused 6 1 0)
    (unless (fits s.at n) (refused 6 2 0)
    (outside (neg_ℤ (pos 262144)) (pos 262144) s.levels)))))

-- ---- the calls
abbrev pub gain_of : List ℤ → Step → (ℕ → ℤ) → Answer × List ℤ
gain_of p s g = gaining (front (length p) s) (sample s.at.depth) (spot s.at) p g

-- the residuals are those of the inverse transform
abbrev pub step_of : List ℤ → Step → Answer × List ℤ
step_of p s = gain_of p s (item (iwht s.levels))

abbrev pub undo_of : List ℤ → Step → Answer × List ℤ
undo_of p s = gain_of p s (item (map neg_ℤ (iwht s.levels)))
