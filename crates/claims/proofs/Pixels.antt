-- Pixels, from document 01, "From coefficients to pixels" and "How much each call owes". Assumes nothing.
--     passes-lanes              the passes in any two forms leave the same numbers
--     add-calls, float-calls    the calls in any two forms: the same answer, and the same slice left
--     residual-dense            the residual of row y, column x, written out: two dense table products with a rounding after each, for every size, type, depth and order
--     add-pixel                 the pixel of row y, column x of an accepted add call, by the sample that stood there and the residual of dense table products
--     float-pixel               so of an accepted float call, by the prediction; as an f32 with exactly that value
use mathlib.Core.Path.{◌≡◌, ap, ◌∙◌, refl}
use mathlib.Core.Bool.{Bool}
use mathlib.Core.List.{List}
use Prim.Native.Nat.{ℕ, ◌+◌, ◌*◌, ◌/◌, ◌^◌, ◌<◌}
use native.Mathlib.Nat as N
use native.Mathlib.Omega.{arith}
use borrow.Author.Tests.{lt-ltb}
use lib.Ieee
use lib.Ieee.{Float}
use lib.IntN.{ℤ, pos}
use lib.ListN.{length, get_or}
use Rattle.whole.specs.Sums.{tab}
use Rattle.whole.specs.Grid.{grid_of, Same}
use Rattle.whole.proofs.Cells.{cell_row, cell-column}
use Rattle.whole.proofs.Fill.{tab-at}
use Rattle.answers.specs.declared.Answer.{Answer}
use Rattle.answers.proofs.Verdicts.{taken}
use Rattle.tables.specs.Sizes.{size_at, cut, scaled}
use Rattle.tables.specs.Kinds.{hor_of, ver_of}
use Rattle.tables.specs.Dense.{dense_of}
use Rattle.passes.specs.Passes.{number_at, entry, settled_to, passes_of, sw_of, sh_of}
use Rattle.passes.proofs.Agreement.{Leaves, lanes-agree}
use Rattle.pixels.specs.Pixels.{repeats, residual_at, pixel_of}
use Rattle.verdicts.specs.Verdicts.{w_of, h_of, add_verdict}
use Rattle.pixels.specs.Calls.{Reading, added, add_of, Exact}
use Rattle.pixels.proofs.Floats.{exact-call}
use Rattle.verdicts.proofs.Judging.{add-passed, last_row}
use Rattle.pixels.proofs.Outcomes.{Adds, Fills, add-lanes, float_lanes}

pub passes-lanes : (rowwise : Bool) (tx txtp depth : ℕ) (cs one four : List ℤ) → Leaves rowwise tx txtp depth cs one → Leaves rowwise tx txtp depth cs four → Same (sw_of tx) (sh_of tx) (grid_of (sw_of tx) one) (grid_of (sw_of tx) four)
passes-lanes = lanes-agree

module _ (rowwise : Bool) (tx txtp depth : ℕ) (cs : List ℤ) where
  -- the numbers that enter row r; the number of row r, column c between rows and columns
  abbrev entering : ℕ → List ℤ
  entering r = tab (cut (w_of tx)) (λ k. entry (scaled (w_of tx) (h_of tx)) depth (get_or cs (number_at rowwise (cut (w_of tx)) (cut (h_of tx)) r k) (pos 0)))

  abbrev between : ℕ → ℕ → ℤ
  between c r = settled_to (depth + 7) (size_at tx).first (get_or (dense_of (w_of tx) (hor_of txtp) (entering r)) c (pos 0))

  pub residual-dense : (y x : ℕ) → residual_at rowwise tx txtp depth cs y x ≡ settled_to depth (size_at tx).second (get_or (dense_of (h_of tx) (ver_of txtp) (tab (cut (h_of tx)) (between (x / 2 ^ repeats (w_of tx))))) (y / 2 ^ repeats (h_of tx)) (pos 0))
  unfolding passes_of
  residual-dense y x = refl

-- ---- the add call
module _ (how : Reading) (dst : List ℤ) (stride : ℕ) (cs : List ℤ) (txtp tx depth : ℕ) where
  pub add-calls : (one four : Answer) (plane plane' : List ℤ) → Adds how dst stride cs txtp tx depth (one, plane) → Adds how dst stride cs txtp tx depth (four, plane') → (one ≡ four) × (plane ≡ plane')
  add-calls = add-lanes how dst stride cs txtp tx depth

  pub add-pixel : (add_of how dst stride cs txtp tx depth).0.number ≡ 0 → (y x : ℕ) → y < h_of tx → x < w_of tx → grid_of stride (add_of how dst stride cs txtp tx depth).1 y x ≡ pixel_of depth (grid_of stride dst y x) (residual_at how.rowwise tx txtp depth cs y x)
  unfolding add_of
  add-pixel e y x l m =
      let p = (add-passed how.refuses dst stride cs txtp tx depth e).1 in
      let n : x < stride = N.lt_of_lt_of_le m p.fits.wide in
      let i : y * stride + x < length dst = omega (arith, last_row (h_of tx) stride (w_of tx) (length dst) p.fits.reach y l) in
      ap (λ (r : Answer × List ℤ). grid_of stride r.1 y x) (taken (add_verdict how.refuses dst stride cs txtp tx depth) dst (added how.rowwise dst stride cs txtp tx depth) e)
      ∙ tab-at (pos 0) (length dst) _ (y * stride + x) i
      ∙ (rw (cell_row y n, cell-column y n, lt-ltb y (h_of tx) l, lt-ltb x (w_of tx) m))

-- ---- the float call
module _ (how : Reading) (out : List Float) (cs : List ℤ) (txtp tx depth : ℕ) (pred : List ℤ) where
  pub float-calls : (one four : Answer) (output output' : List Float) → Fills how out cs txtp tx depth pred (one, output) → Fills how out cs txtp tx depth pred (four, output') → (one ≡ four) × (output ≡ output')
  float-calls = float_lanes how out cs txtp tx depth pred

  pub float-pixel : (a : Answer) (output : List Float) → Fills how out cs txtp tx depth pred (a, output) → a.number ≡ 0 → Exact how output cs txtp tx depth pred
  float-pixel = exact-call how out cs txtp tx depth pred
