-- Tables by rows, for the inputs xs. Definitions only.
--     Rows t xs     t has as many rows as inputs, and no sum of a row's products, in any order, leaves 32 bits
use Rattle.std.specs.Prelude.{◌≡◌, List, ℕ, ◌*◌, ◌^◌, ◌<◌, ℤ, length}
use Rattle.whole.specs.Sums.{row_at, spread}

pub record Rows (t xs : List ℤ) : Type 0 where
  pub square : length t ≡ length xs * length xs
  pub small : (i : ℕ) → i < length xs → spread (row_at (length xs) t i) xs < 2 ^ 31
