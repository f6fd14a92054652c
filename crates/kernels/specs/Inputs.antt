-- What every kernel takes: numbers of size at most 2^19, the coefficients clamped at depth 12 (document 01, "From coefficients to
-- pixels"). Definitions only.
--     Inputs n xs         n such numbers
--     Live n live xs      n numbers, of which the first live are such numbers; the others may be any (document 02, §7)
use Rattle.std.specs.Prelude.{◌≡◌, List, ℕ, ◌^◌, ◌≤◌, ℤ, length}
use Rattle.whole.specs.Sums.{Within}
use Rattle.tables.specs.Dense.{first_of}

abbrev pub Inputs : ℕ → List ℤ → Type 0
Inputs n xs = (length xs ≡ n) × Within (2 ^ 19) xs

abbrev pub Live : ℕ → ℕ → List ℤ → Type 0
Live n live xs = (live ≤ n) × Inputs n (first_of live xs)
