-- What the pixel calls answer, from document 01, "Refusal numbers", and document 02, sections 5 and 6. Definitions only.
-- Slice 1 is the coefficients, slice 2 the prediction or plane, slice 3 the output.
--     kinds          refusals 1 to 4: depth, size number, type number, a kind that its length doesn't have
--     coefficients, samples, numbers       refusal 7: a coefficient out of range; refusal 8: a prediction or present sample out of range; both
--     on_plane, add_verdict                  the add call: refusals 5 and 6, its answer
--     on_buffers, float_verdict              the float call: refusal 6, its answer
use Rattle.std.specs.Prelude.{◌≡◌, Bool, true, false, ◌&&◌, cond, List, ℕ, ◌+◌, ◌*◌, ◌-◌, ◌≤◌, ◌<◌, leb, ℤ, pos, length, get_or}
use Rattle.whole.specs.Numbers.{in_range, lowest, highest}
use Rattle.whole.specs.Search.{seek, cell_at}
use Rattle.answers.specs.declared.Answer.{Answer}
use Rattle.answers.specs.Answers.{done, refused, unless, searched}
use Rattle.ranges.specs.Cells.{cell_ok}
use Rattle.tables.specs.Sizes.{size_at, cut, scaled}
use Rattle.tables.specs.Kinds.{hor_of, ver_of, has_kind}
use Rattle.passes.specs.Passes.{scalable}

-- the sides of a size number
abbrev pub w_of : ℕ → ℕ
w_of tx = (size_at tx).w

abbrev pub h_of : ℕ → ℕ
h_of tx = (size_at tx).h

-- the sides of any size lie in 4 .. 64
pub record Sides (w h : ℕ) : Type 0 where
  pub wide : 4 ≤ w
  pub narrow : w ≤ 64
  pub high : 4 ≤ h
  pub low : h ≤ 64

-- ---- refusals
abbrev pub kinds : ℕ → ℕ → ℕ → Answer → Answer
kinds tx txtp depth rest =
    unless (leb 8 depth && leb depth 12) (refused 1 0 0)
    (unless (leb tx 24) (refused 2 0 0)
    (unless (leb txtp 255) (refused 3 0 0)
    (unless (has_kind (w_of tx) (hor_of txtp)) (refused 4 0 0)
    (unless (has_kind (h_of tx) (ver_of txtp)) (refused 4 0 1)
    rest))))

-- coefficient k as it was handed over, before any scaling: in -2^(depth+7) .. 2^(depth+7) - 1; where the call clamps, in -11,864,550 .. 11,864,549 if it is scaled, and any if not
abbrev pub coeff_ok : Bool → Bool → ℕ → List ℤ → ℕ → Bool
coeff_ok refuses scale depth cs k =
    cond refuses (in_range (lowest (depth + 7)) (highest (depth + 7)) (get_or cs k (pos 0))) (cond scale (scalable (get_or cs k (pos 0))) true)

-- number k is the lowest below n of a coefficient outside -2^(depth+7) .. 2^(depth+7) - 1; for statements on refusal 7
pub record FirstOutside (depth n : ℕ) (cs : List ℤ) (k : ℕ) : Type 0 where
  pub below : k < n
  pub outside : coeff_ok true false depth cs k ≡ false
  pub before : (j : ℕ) → j < k → coeff_ok true false depth cs j ≡ true

-- of a block of w by h, and of its predictions or samples at the front of p, their rows stride apart
abbrev pub coefficients : Bool → ℕ → ℕ → ℕ → List ℤ → Answer → Answer
coefficients refuses w h depth cs rest =
    searched 7 1 (cut w * cut h) (λ k. k) (seek (coeff_ok refuses (scaled w h) depth cs) 0 (cut w * cut h)) rest

abbrev pub samples : ℕ → ℕ → ℕ → List ℤ → ℕ → Answer
samples w h depth p stride =
    searched 8 2 (h * w) (cell_at 0 stride w) (seek (cell_ok (pos 0) (highest depth) p 0 stride w) 0 (h * w)) done

abbrev pub numbers : Bool → ℕ → ℕ → ℕ → List ℤ → List ℤ → ℕ → Answer
numbers refuses w h depth cs p stride = coefficients refuses w h depth cs (samples w h depth p stride)

-- ---- the add call: a plane of room samples, its stride, count coefficients
abbrev pub on_plane : ℕ → ℕ → ℕ → ℕ → ℕ → Answer → Answer
on_plane w h room stride count rest =
    unless (leb w stride && leb stride 65536) (refused 5 0 0)
    (unless (leb (cut w * cut h) count) (refused 6 1 0)
    (unless (leb ((h - 1) * stride + w) room) (refused 6 2 0)
    rest))

-- refusals 1 to 6, then the rest
abbrev pub add_front : ℕ → ℕ → ℕ → ℕ → ℕ → ℕ → Answer → Answer
add_front room stride count txtp tx depth rest = kinds tx txtp depth (on_plane (w_of tx) (h_of tx) room stride count rest)

unfoldable pub add_verdict : Bool → List ℤ → ℕ → List ℤ → ℕ → ℕ → ℕ → Answer
unfolding seek
add_verdict refuses dst stride cs txtp tx depth =
    add_front (length dst) stride (length cs) txtp tx depth (numbers refuses (w_of tx) (h_of tx) depth cs dst stride)

-- ---- the float call: an output of room numbers, count coefficients, known predictions, each row w apart
abbrev pub on_buffers : ℕ → ℕ → ℕ → ℕ → ℕ → Answer → Answer
on_buffers w h room count known rest =
    unless (leb (cut w * cut h) count) (refused 6 1 0)
    (unless (leb (h * w) known) (refused 6 2 0)
    (unless (leb (h * w) room) (refused 6 3 0)
    rest))

abbrev pub float_front : ℕ → ℕ → ℕ → ℕ → ℕ → ℕ → Answer → Answer
float_front room count txtp tx depth known rest = kinds tx txtp depth (on_buffers (w_of tx) (h_of tx) room count known rest)

unfoldable pub float_verdict : Bool → ℕ → List ℤ → ℕ → ℕ → ℕ → List ℤ → Answer
unfolding seek
float_verdict refuses room cs txtp tx depth pred =
    float_front room (length cs) txtp tx depth (length pred) (numbers refuses (w_of tx) (h_of tx) depth cs pred (w_of tx))
