-- The samples of a screen: lines of stride, one after another, of which the first width are visible and the others are the pad. Definitions only;
-- the pad is that of document 02, section 2.
--     natural z, argument list k         z, or 0 where it is negative; the same of number k of a command's line
--     stands_of, block_stands              whether a block of w by h, or of a size number, stands on a screen
--     mark, fresh_of                      the mark that sample i of the pad has at the start; the sample i of a new plane whose visible ones are z
--     marked                             a plane with the marks of the start in its pad
--     block_of                            an AV2 block added at a row and column: the answer, and the plane as it is left.
--                                        A block that leaves the screen is answered as on a plane of no sample
--     drawn_of                            a block on a screen: row, column, size, type and coefficients from a list of numbers
--     Differ r a b                       a and b first differ at r, or are the same list and r is its length
use Rattle.std.specs.Prelude.{◌≡◌, Bool, ◌&&◌, cond, List, [], ◌++◌, ℕ, ◌+◌, ◌*◌, ◌%◌, ◌<◌, leb, ℤ, pos, negsuc, length, get_or, take, drop}
use Rattle.answers.specs.declared.Answer.{Answer}
use Rattle.whole.specs.Sums.{tab, item}
use Rattle.verdicts.specs.Verdicts.{w_of, h_of}
use Rattle.pixels.specs.Calls.{strict, add_of}

abbrev pub natural : ℤ → ℕ
natural (pos n) = n
natural (negsuc n) = 0

abbrev pub argument : List ℤ → ℕ → ℕ
argument list k = natural (item list k)

abbrev pub stands_of : ℕ → ℕ → ℕ → ℕ → ℕ → ℕ → Bool
stands_of width height row column w h = leb (column + w) width && leb (row + h) height

abbrev pub block_stands : ℕ → ℕ → ℕ → ℕ → ℕ → Bool
block_stands width height row column tx = leb tx 24 && stands_of width height row column (w_of tx) (h_of tx)

-- a call on the samples from start on
abbrev pub from_on : ℕ → List ℤ → Answer × List ℤ → Answer × List ℤ
from_on start p r = (r.0, take start p ++ r.1)

-- another unit's marks: neighbours differ, and each could be a sample
abbrev pub mark : ℕ → ℤ
mark i = pos (i % 256)

abbrev pub fresh_of : ℕ → ℕ → ℤ → ℕ → ℤ
fresh_of stride width z i = cond (leb width (i % stride)) (mark i) z

abbrev pub marked : ℕ → ℕ → List ℤ → List ℤ
marked stride width p = tab (length p) (λ i. fresh_of stride width (item p i) i)

unfoldable pub block_of : List ℤ → ℕ → ℕ → ℕ → ℕ → ℕ → List ℤ → ℕ → ℕ → ℕ → Answer × List ℤ
block_of p stride width height row column cs txtp tx depth =
    cond (block_stands width height row column tx)
    (from_on (row * stride + column) p (add_of strict (drop (row * stride + column) p) stride cs txtp tx depth))
    ((add_of strict [] stride cs txtp tx depth).0, p)

abbrev pub drawn_of : ℕ → ℕ → ℕ → ℕ → List ℤ → List ℤ → Answer × List ℤ
drawn_of stride width height depth list p =
    block_of p stride width height (argument list 0) (argument list 1) (drop 4 list) (argument list 3) (argument list 2) depth

pub record Differ (r : ℕ) (a b : List ℤ) : Type 0 where
  pub before : (k : ℕ) → k < r → get_or a k (pos 0) ≡ get_or b k (pos 0)
  pub there : r < length a → get_or a r (pos 0) ≡ get_or b r (pos 0) → ⊥
  pub same : length a ≡ r → a ≡ b
