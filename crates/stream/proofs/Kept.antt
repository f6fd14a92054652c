-- Floats by their bits. Assumes nothing.
--     kept        what no call has written comes back by the bits that it came with, a NaN's too
--     kept-all    the same of a list
--     written     what a call has written, a number from 0 on, comes back by its own bits
use mathlib.Core.Path.{◌≡◌, refl, sym, ◌∙◌, subst}
use mathlib.Core.List.{List}
use mathlib.Core.Bool.{Bool, true, false, not, ◌&&◌, cond}
use Prim.Native.Nat.{ℕ, ◌*◌, ◌<◌}
use native.Mathlib.Omega.{arith}
use borrow.Author.Tests.{le-ltb}
use lib.Dec.{T}
use lib.IntN.{ℤ, pos}
use lib.ListN.{length, get_or}
use lib.Ieee.{Float, nan, inf, fin, binary32, up, down, of_bits, to_bits, nan_bits, is_nan, neg, lt}
use lib.Ieee.Bits.{to_bits-of_bits, nan_bits_is}
use lib.Ieee.Exact.{HasValue}
use mir.Syntax.{w32}
use mir.Val.{SFits, to_z, of_z}
use mir.Facts.{Fits-of_z, Fits-lt-pow}
use mir.ValLaws.{to_z-of_z}
use Rattle.whole.proofs.Fill.{tab-same, tab-at, tab-list}
use Rattle.stream.specs.Floats.{stand_in, float_of, bits_of, floats_of, bits_back}

and-false : (t : Bool) → (t && false) ≡ false
and-false true = refl
and-false false = refl

-- the stand-in is below 0
below-zero : lt stand_in (of_bits binary32 0) ≡ true
unfolding lt of_bits neg
below-zero = refl

pub kept : (b : ℕ) → b < 4294967296 → bits_of (float_of b) b ≡ b
unfolding float_of bits_of
kept b h = go (nan_bits binary32 b) refl
  where
    go : (t : Bool) → nan_bits binary32 b ≡ t
        → cond (nan_bits binary32 b && lt (cond (nan_bits binary32 b) stand_in (of_bits binary32 b)) (of_bits binary32 0)) b
        (cond (is_nan (cond (nan_bits binary32 b) stand_in (of_bits binary32 b))) b (to_bits binary32 (cond (nan_bits binary32 b) stand_in (of_bits binary32 b))))
        ≡ b
    go true e = rw (e, below-zero)
    go false e =
        let n = sym (nan_bits_is binary32 b) ∙ e in
        rw (e, n) (to_bits-of_bits binary32 b h (subst (λ t. T (not t)) (sym n) tt))

pub kept-all : (bits : List ℤ) → ((k : ℕ) → k < length bits → SFits w32 (get_or bits k (pos 0))) → bits_back (floats_of bits) bits ≡ bits
kept-all bits f = tab-same (length bits) _ (λ k. get_or bits k (pos 0)) same ∙ tab-list (pos 0) bits
  where
    same : (k : ℕ) → k < length bits → to_z w32 (bits_of (get_or (floats_of bits) k nan) (of_z w32 (get_or bits k (pos 0)))) ≡ get_or bits k (pos 0)
    same k h =
        let z = get_or bits k (pos 0) in
        rw (tab-at nan (length bits) (λ k. float_of (of_z w32 (get_or bits k (pos 0)))) k h, kept (of_z w32 z) (Fits-lt-pow (Fits-of_z (f k h))))
        (to_z-of_z w32 z (f k h))

not-below : (m : ℕ) (e : ℤ) → lt (fin false m e) (of_bits binary32 0) ≡ false
unfolding lt of_bits
not-below m e = le-ltb (m * up e * 1) (0 * down e) (omega arith)

pub written : (x : Float) (a c b : ℕ) → HasValue x false a c → bits_of x b ≡ to_bits binary32 x
unfolding bits_of is_nan
written nan a c b h = absurd h
written (inf s) a c b h = absurd h
written (fin true m e) a c b h = absurd (subst T h.0 tt)
written (fin false m e) a c b h = rw (not-below m e, and-false (nan_bits binary32 b))
