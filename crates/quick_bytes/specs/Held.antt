-- The fast form on planes of bytes. Definitions only.
--     Held          the block's rows lie in the plane
--     reached       a byte with a result of the columns: the result is rounded and clamped, then added
--     reached_of     what a block becomes from its results C, its first byte at from
--     bytes_by       the plane whose block gains the residuals R
use Rattle.std.specs.Prelude.{cond, List, ℕ, ◌+◌, ◌*◌, ◌/◌, ◌%◌, ◌≤◌, ◌<◌, ℤ, length, get_or}
use Rattle.whole.specs.Sums.{tab}
use Rattle.whole.specs.Grid.{in_block}
use Rattle.passes.specs.Passes.{settled_to}
use Rattle.byteplanes.specs.Bytes.{byte_of}

pub record Held (from stride w h : ℕ) (dst : List ℕ) : Type 0 where
  pub wide : w ≤ stride
  pub inside : (y : ℕ) → y < h → from + y * stride + w ≤ length dst

abbrev pub reached : ℕ → ℕ → ℤ → ℕ
reached shift p e = byte_of p (settled_to 8 shift e)

abbrev pub reached_of : List ℕ → ℕ → ℕ → ℕ → (ℕ → ℕ → ℤ) → ℕ → ℕ → ℕ
reached_of dst from stride shift C y x = reached shift (get_or dst (from + y * stride + x) 0) (C y x)

abbrev pub bytes_by : ℕ → ℕ → (ℕ → ℕ → ℤ) → List ℕ → ℕ → List ℕ
bytes_by w h R dst stride =
    tab (length dst) (λ i. cond (in_block stride w h i) (byte_of (get_or dst i 0) (R (i / stride) (i % stride))) (get_or dst i 0))
