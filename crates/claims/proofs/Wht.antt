-- The 4x4 Walsh-Hadamard transform, from document 01, "Chroma pairs and WHT". Assumes nothing.
--     inverse-forward, forward-inverse    each transform undoes the other, on any sixteen whole numbers
--     levels-taken     of two blocks in range at one depth `fwht4x4` accepts the difference and leaves levels; `iwht4x4` accepts those and leaves the
--                      difference, which leads from the one block to the other
use mathlib.Core.Path.{◌≡◌}
use mathlib.Core.Bool.{true}
use mathlib.Core.List.{List}
use Prim.Native.Nat.{ℕ, ◌≤◌, ◌<◌}
use lib.IntN.{ℤ, pos, ◌+ℤ◌, ◌-ℤ◌}
use lib.ListN.{length, get_or}
use Rattle.whole.specs.Numbers.{in_range, highest}
use Rattle.whole.specs.Sums.{tab}
use Rattle.answers.specs.Answers.{done}
use Rattle.wht.specs.Wht.{fwht, iwht}
use Rattle.wht.specs.Calls.{fwht_of, iwht_of}
use Rattle.wht.proofs.Inverse.{iwht-fwht, fwht-iwht}
use Rattle.wht.proofs.Difference.{forward-takes, inverse-takes, leads}

pub inverse-forward : (l : List ℤ) → length l ≡ 16 → iwht (fwht l) ≡ l
inverse-forward = iwht-fwht

pub forward-inverse : (l : List ℤ) → length l ≡ 16 → fwht (iwht l) ≡ l
forward-inverse = fwht-iwht

-- sixteen samples in range, by their index
abbrev Samples : ℕ → (ℕ → ℤ) → Type 0
Samples depth f = (k : ℕ) → k < 16 → in_range (pos 0) (highest depth) (f k) ≡ true

module _ (depth : ℕ) (deep : depth ≤ 12) (present wanted : ℕ → ℤ) (old : Samples depth present) (new : Samples depth wanted) where
  abbrev difference : List ℤ
  difference = tab 16 (λ k. wanted k -ℤ present k)

  pub levels-taken : (level resid : List ℤ) → length level ≡ 16 → length resid ≡ 16
      → (fwht_of difference level ≡ (done, fwht difference)) × (iwht_of (fwht difference) resid ≡ (done, difference)) × ((k : ℕ) → k < 16 → present k +ℤ get_or (iwht (fwht difference)) k (pos 0) ≡ wanted k)
  levels-taken level resid e f =
      (forward-takes depth deep present wanted old new level e, inverse-takes depth deep present wanted old new resid f, leads depth deep present wanted old new)
