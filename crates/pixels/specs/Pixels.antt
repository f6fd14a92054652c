-- Pixels, from document 01, "From coefficients to pixels", after the columns; rowwise is the order of the coefficients, of document 02, section 1. Definitions only.
--     residual_of     after the columns: half added, divided by the second shift, rounded down, clamped to -2^depth .. 2^depth - 1
--     repeats        how often a length repeats each residual along its side, as a power of two: 64 twice
--     repeated       the number of row y, column x of a grid that a block of w by h repeats along its sides of 64
--     residual_at     the residual of the pixel in row y, column x
--     pixel_of        prediction plus residual, clamped to 0 .. 2^depth - 1
--     pixel_f         the f32 equal to a pixel; IsPixel: 0 .. 4095
use Rattle.std.specs.Prelude.{Bool, cond, List, ℕ, ◌/◌, ◌^◌, ◌≤◌, leb, Float, ℤ, pos, negsuc, ◌+ℤ◌}
use Rattle.std.specs.Float.Ieee
use Rattle.std.specs.Float.{binary32}
use Rattle.std.specs.Float.Ieee.{of_int}
use Rattle.whole.specs.Numbers.{clamp, highest}
use Rattle.tables.specs.Sizes.{size_at}
use Rattle.passes.specs.Passes.{settled_to, passes_of}

abbrev pub repeats : ℕ → ℕ
repeats n = cond (leb n 32) 0 1

abbrev pub residual_of : Bool → ℕ → ℕ → ℕ → List ℤ → ℕ → ℕ → ℤ
residual_of rowwise tx txtp depth cs r x = settled_to depth (size_at tx).second (passes_of rowwise tx txtp depth cs r x)

abbrev pub repeated : ℕ → ℕ → (ℕ → ℕ → ℤ) → ℕ → ℕ → ℤ
repeated w h g y x = g (y / 2 ^ repeats h) (x / 2 ^ repeats w)

abbrev pub residual_at : Bool → ℕ → ℕ → ℕ → List ℤ → ℕ → ℕ → ℤ
residual_at rowwise tx txtp depth cs = repeated (size_at tx).w (size_at tx).h (residual_of rowwise tx txtp depth cs)

abbrev pub pixel_of : ℕ → ℤ → ℤ → ℤ
pixel_of depth p e = clamp (pos 0) (highest depth) (p +ℤ e)

unfoldable pub pixel_f : ℤ → Float
unfolding of_int
pixel_f z = of_int binary32 z

-- 0 .. 4095, so that the f32 is exact
abbrev pub IsPixel : ℤ → Type 0
IsPixel (pos n) = n ≤ 4095
IsPixel (negsuc n) = ⊥
