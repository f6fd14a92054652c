-- Residuals in a work area, and the samples that each serves. Definitions only.
--     served        the residual of row y, column x: rows of sw in the work area, each residual serving 2^across samples of 2^down rows
--     Residuals     every sample of w by h has its residual in the work area, and it is within 4,096
use Rattle.std.specs.Prelude.{List, ℕ, ◌+◌, ◌*◌, ◌/◌, ◌^◌, ◌≤◌, ◌<◌, ℤ, nat_abs, length}
use Rattle.whole.specs.Grid.{grid_of}

abbrev pub served : ℕ → ℕ → ℕ → List ℤ → ℕ → ℕ → ℤ
served sw across down work y x = grid_of sw work (y / 2 ^ down) (x / 2 ^ across)

pub record Residuals (w h sw across down : ℕ) (work : List ℤ) : Type 0 where
  pub few : across ≤ 1
  pub twice : down ≤ 1
  pub column : (x : ℕ) → x < w → x / 2 ^ across < sw
  pub row : (y : ℕ) → y < h → (y / 2 ^ down) * sw + sw ≤ length work
  pub small : (y x : ℕ) → y < h → x < sw → nat_abs (grid_of sw work (y / 2 ^ down) x) ≤ 4096
