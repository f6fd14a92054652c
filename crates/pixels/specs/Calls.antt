-- The two pixel calls, from document 01, "From coefficients to pixels", and document 02, sections 1 and 5. Definitions only.
--     Reading        how a call takes its coefficients: `strict` in column order, refused where out of range; `strict_rows` so in row order; `clamped` in column
--                    order, clamped as document 01 says
--     add_of          the add call: its answer (`add_verdict`), and what it leaves
--     float_of        so the float call; Exact: the numbers of its block are the pixels, exactly
use Rattle.std.specs.Prelude.{◌≡◌, Bool, true, false, cond, List, ℕ, ◌+◌, ◌*◌, ◌/◌, ◌%◌, ◌≤◌, ◌<◌, Float, ℤ, pos, nat_abs, length, get_or}
use Rattle.std.specs.Float.Ieee
use Rattle.std.specs.Float.Ieee.Exact.{HasValue}
use Rattle.whole.specs.Sums.{tab}
use Rattle.whole.specs.Grid.{in_block}
use Rattle.answers.specs.declared.Answer.{Answer}
use Rattle.answers.specs.Answers.{ends}
use Rattle.passes.specs.Passes.{passes_of}
use Rattle.verdicts.specs.Verdicts.{w_of, h_of, add_verdict, float_verdict}
use Rattle.pixels.specs.declared.form.Form.{Form}
use Rattle.pixels.specs.Pixels.{residual_at, pixel_of, pixel_f}

-- rowwise: row r, column x is number r * sw + x; where not, number r + x * sh
-- refuses: a coefficient outside -2^(depth+7) .. 2^(depth+7) - 1 is refused; where not, it is clamped
pub record Reading : Type 0 where
  pub rowwise : Bool
  pub refuses : Bool

abbrev pub strict : Reading
strict = record { rowwise = false; refuses = true }

abbrev pub strict_rows : Reading
strict_rows = record { rowwise = true; refuses = true }

abbrev pub clamped : Reading
clamped = record { rowwise = false; refuses = false }

abbrev pub reading_of : Form → Reading
reading_of form = record { rowwise = form.rowwise; refuses = form.strict }

-- a list in column order and its turned copy in row order; numbers past sw * sh may be anything
pub record Turned (sw sh : ℕ) (columns rows : List ℤ) : Type 0 where
  pub enough : sw * sh ≤ length columns
  pub enough-rows : sw * sh ≤ length rows
  pub same : (r x : ℕ) → r < sh → x < sw → get_or rows (r * sw + x) (pos 0) ≡ get_or columns (r + x * sh) (pos 0)

-- ---- the add call
-- sample i of the plane: inside the block of w by h a pixel with its residual R, elsewhere what it was
abbrev pub added_by : ℕ → ℕ → ℕ → (ℕ → ℕ → ℤ) → List ℤ → ℕ → List ℤ
added_by w h depth R dst stride =
    tab (length dst) (λ i. cond (in_block stride w h i) (pixel_of depth (get_or dst i (pos 0)) (R (i / stride) (i % stride))) (get_or dst i (pos 0)))

abbrev pub added : Bool → List ℤ → ℕ → List ℤ → ℕ → ℕ → ℕ → List ℤ
added rowwise dst stride cs txtp tx depth = added_by (w_of tx) (h_of tx) depth (residual_at rowwise tx txtp depth cs) dst stride

unfoldable pub add_of : Reading → List ℤ → ℕ → List ℤ → ℕ → ℕ → ℕ → Answer × List ℤ
unfolding add_verdict passes_of
add_of how dst stride cs txtp tx depth = ends (add_verdict how.refuses dst stride cs txtp tx depth) dst (added how.rowwise dst stride cs txtp tx depth)

-- ---- the float call
-- number i of the output: in the first w * h a pixel with its residual R, as an f32; beyond them what it was
abbrev pub filled_by : ℕ → ℕ → ℕ → (ℕ → ℕ → ℤ) → List Float → List ℤ → List Float
filled_by w h depth R out pred =
    tab (length out) (λ i. cond (in_block w w h i) (pixel_f (pixel_of depth (get_or pred i (pos 0)) (R (i / w) (i % w)))) (get_or out i (pixel_f (pos 0))))

abbrev pub filled : Bool → List Float → List ℤ → ℕ → ℕ → ℕ → List ℤ → List Float
filled rowwise out cs txtp tx depth pred = filled_by (w_of tx) (h_of tx) depth (residual_at rowwise tx txtp depth cs) out pred

unfoldable pub float_of : Reading → List Float → List ℤ → ℕ → ℕ → ℕ → List ℤ → Answer × List Float
unfolding float_verdict passes_of pixel_f
float_of how out cs txtp tx depth pred = ends (float_verdict how.refuses (length out) cs txtp tx depth pred) out (filled how.rowwise out cs txtp tx depth pred)

-- number i of the block is finite, not negative, and in size the pixel over 1
abbrev pub Exact : Reading → List Float → List ℤ → ℕ → ℕ → ℕ → List ℤ → Type 0
Exact how out cs txtp tx depth pred =
    (i : ℕ) → i < h_of tx * w_of tx → HasValue (get_or out i (pixel_f (pos 0))) false (nat_abs (pixel_of depth (get_or pred i (pos 0)) (residual_at how.rowwise tx txtp depth cs (i / w_of tx) (i % w_of tx)))) 1
