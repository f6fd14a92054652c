-- Numbers that 16 bits hold, with their sign. Definitions only.
--     Short z         -2^15 ≤ z < 2^15
--     is_short z      the same as a test
--     AllShort xs     every number of xs is such
use Rattle.std.specs.Prelude.{Bool, ℕ, ◌^◌, ◌<◌, List, ℤ, pos, negsuc, length, get_or}
use Rattle.std.specs.Int.Signed.{mag}
use Rattle.whole.specs.Numbers.{in_range}

-- mag z is n both for n and for -(n + 1)
abbrev pub Short : ℤ → Type 0
Short z = mag z < 2 ^ 15

abbrev pub is_short : ℤ → Bool
is_short z = in_range (negsuc 32767) (pos 32767) z

abbrev pub AllShort : List ℤ → Type 0
AllShort xs = (k : ℕ) → k < length xs → Short (get_or xs k (pos 0))
