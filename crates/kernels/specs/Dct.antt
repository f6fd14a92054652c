-- The DCT of each length, and which tables its kernels take. Definitions only.
--     dct_of n xs           the dense product by columns with the table of length n
--     Recursed n           the lengths that `dct_recurse` takes
--     OddTable n t         t is the source's table of the odd half of a DCT of 2n numbers
use Rattle.std.specs.Prelude.{◌≡◌, ◌⊎◌, List, ℕ, ℤ}
use Rattle.whole.specs.Sums.{dense_c}
use Rattle.tables.specs.Half.{half8, half16}
use Rattle.tables.specs.Dense.{dct_table}

abbrev pub dct_of : ℕ → List ℤ → List ℤ
dct_of n xs = dense_c n (dct_table n) xs

abbrev pub Recursed : ℕ → Type 0
Recursed n = (n ≡ 4) ⊎ ((n ≡ 8) ⊎ (n ≡ 16))

abbrev pub OddTable : ℕ → List ℤ → Type 0
OddTable n t = ((n ≡ 4) × (t ≡ half8)) ⊎ ((n ≡ 8) × (t ≡ half16))
