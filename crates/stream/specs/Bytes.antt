-- Numbers as bytes, the lowest byte first (docs/CASES.md). Definitions only.
--     joined a b c d      the number of four bytes
--     num_at, word_at     the number of the four, of the eight bytes from a place on
--     num_put, word_put   a list of bytes with a number put in from a place on
--     nums_put            the same with a list of signed numbers, by their bits
use Rattle.std.specs.Prelude.{List, [], ◌∷◌, ℕ, ◌+◌, ◌*◌, ◌/◌, ◌%◌, ℤ, get_or, set}
use Rattle.std.specs.Int.{w32}
use Rattle.std.proofs.Common.{of_z}

abbrev pub joined : ℕ → ℕ → ℕ → ℕ → ℕ
joined a b c d = a + 256 * b + 65536 * c + 16777216 * d

unfoldable pub num_at : List ℕ → ℕ → ℕ
num_at bytes at = joined (get_or bytes at 0) (get_or bytes (at + 1) 0) (get_or bytes (at + 2) 0) (get_or bytes (at + 3) 0)

abbrev pub word_at : List ℕ → ℕ → ℕ
word_at bytes at = num_at bytes at + 4294967296 * num_at bytes (at + 4)

unfoldable pub num_put : List ℕ → ℕ → ℕ → List ℕ
num_put bytes at n =
    set (set (set (set bytes at (n % 256)) (at + 1) (n / 256 % 256)) (at + 2) (n / 65536 % 256)) (at + 3) (n / 16777216 % 256)

abbrev pub word_put : List ℕ → ℕ → ℕ → List ℕ
word_put bytes at word = num_put (num_put bytes at (word % 4294967296)) (at + 4) (word / 4294967296 % 4294967296)

abbrev pub nums_put : List ℕ → ℕ → List ℤ → List ℕ
nums_put bytes at [] = bytes
nums_put bytes at (z ∷ zs) = nums_put (num_put bytes at (of_z w32 z)) (at + 4) zs
