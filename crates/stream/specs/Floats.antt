-- f32 numbers by their bits. The language has no bits of a NaN, so a float stands for it that no call writes. Definitions only.
--     float_of b             what stands for the bits b
--     stands_for x b         whether x still stands for a NaN of the bits b
--     bits_of x b            the bits of x, which was handed on in place of the bits b
--     floats_of, bits_back    the same over lists, whose bits are signed numbers
use Rattle.std.specs.Prelude.{Bool, ◌&&◌, cond, List, ℕ, Float, ℤ, pos, length, get_or}
use Rattle.std.specs.Float.{nan, binary32}
use Rattle.std.specs.Float.Ieee.{of_bits, to_bits, nan_bits, is_nan, neg, lt}
use Rattle.std.specs.Int.{w32}
use Rattle.std.proofs.Common.{to_z, of_z}
use Rattle.whole.specs.Sums.{tab}

-- -1
abbrev pub stand_in : Float
stand_in = neg (of_bits binary32 0x3f80_0000)

unfoldable pub float_of : ℕ → Float
float_of b = cond (nan_bits binary32 b) stand_in (of_bits binary32 b)

abbrev pub stands_for : Float → ℕ → Bool
stands_for x b = nan_bits binary32 b && lt x (of_bits binary32 0)

unfoldable pub bits_of : Float → ℕ → ℕ
bits_of x b = cond (stands_for x b) b (cond (is_nan x) b (to_bits binary32 x))

abbrev pub floats_of : List ℤ → List Float
floats_of bits = tab (length bits) (λ k. float_of (of_z w32 (get_or bits k (pos 0))))

abbrev pub bits_back : List Float → List ℤ → List ℤ
bits_back list bits = tab (length bits) (λ k. to_z w32 (bits_of (get_or list k nan) (of_z w32 (get_or bits k (pos 0)))))
