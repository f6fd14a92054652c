-- The add call on a plane of bytes, from document 02, section 4. Definitions only.
-- Depth 8 alone, no size with a side of 64; no byte is out of range, so refusal 8 is not tested.
--     narrow            refusals 1, 2 and 11: a depth other than 8, the size number, a side of 64
--     bytes_verdict      the call's answer: 1, 2, 11, then 3 to 7 as the wide call has them
--     byte_of            a byte with its residual, clamped to 0 .. 255
--     bytes_of           the whole call: the wide call's pixels over the same numbers, read back as bytes
use Rattle.std.specs.Prelude.{Bool, ◌&&◌, List, map, ℕ, eqb, leb, ℤ, pos, nat_abs, length}
use Rattle.answers.specs.declared.Answer.{Answer}
use Rattle.answers.specs.Answers.{done, refused, unless, ends}
use Rattle.passes.specs.Passes.{passes_of}
use Rattle.whole.specs.Search.{seek}
use Rattle.pixels.specs.Pixels.{pixel_of}
use Rattle.verdicts.specs.Verdicts.{w_of, h_of, kinds, on_plane, coefficients}
use Rattle.pixels.specs.Calls.{Reading, added}

abbrev pub narrow : ℕ → ℕ → Answer → Answer
narrow tx depth rest =
    unless (eqb depth 8) (refused 1 0 0)
    (unless (leb tx 24) (refused 2 0 0)
    (unless (leb (w_of tx) 32 && leb (h_of tx) 32) (refused 11 0 0)
    rest))

-- a plane of room bytes; 1 and 2 of `kinds` have passed before
unfoldable pub bytes_verdict : Bool → ℕ → ℕ → List ℤ → ℕ → ℕ → ℕ → Answer
unfolding seek
bytes_verdict refuses room stride cs txtp tx depth =
    narrow tx depth
    (kinds tx txtp depth
    (on_plane (w_of tx) (h_of tx) room stride (length cs)
    (coefficients refuses (w_of tx) (h_of tx) depth cs done)))

abbrev pub byte_of : ℕ → ℤ → ℕ
byte_of p e = nat_abs (pixel_of 8 (pos p) e)

unfoldable pub bytes_of : Reading → List ℕ → ℕ → List ℤ → ℕ → ℕ → ℕ → Answer × List ℕ
unfolding bytes_verdict passes_of
bytes_of how dst stride cs txtp tx depth =
    ends (bytes_verdict how.refuses (length dst) stride cs txtp tx depth) dst (map nat_abs (added how.rowwise (map pos dst) stride cs txtp tx depth))
