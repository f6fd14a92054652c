-- Planes of bytes, from document 02, section 4. Definitions only. A slice of bytes is a list of natural numbers; `map pos` gives the plane of the
-- same values, `map nat_abs` reads such a plane back.
--     Bytes p       every number of p is a byte
--     is_byte z      the number z is a byte
use Rattle.std.specs.Prelude.{Bool, List, ℕ, ◌≤◌, ◌<◌, ℤ, pos, length, get_or}
use Rattle.whole.specs.Numbers.{in_range}

abbrev pub Bytes : List ℕ → Type 0
Bytes p = (i : ℕ) → i < length p → get_or p i 0 ≤ 255

abbrev pub is_byte : ℤ → Bool
is_byte z = in_range (pos 0) (pos 255) z
