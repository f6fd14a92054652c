-- Coefficients out of range, from document 02, section 5. Assumes nothing.
--     add-strict, float-strict        where the strict call accepts, it and the clamped call give the same answer and leave the same slice, for every size, kind and depth
--     add-refused, float-refused      once 1 to 6 pass, the strict call refuses with 7 a list in which some coefficient is outside -2^(depth+7) .. 2^(depth+7) - 1,
--                                     about the coefficients, at the lowest index
--     add-exactly, float-exactly      and 7 is given for nothing else
use mathlib.Core.Path.{◌≡◌}
use mathlib.Core.List.{List}
use Prim.Native.Nat.{ℕ, ◌*◌}
use lib.Ieee
use lib.Ieee.{Float}
use lib.IntN.{ℤ}
use lib.ListN.{length}
use Rattle.answers.specs.Answers.{done, refused}
use Rattle.tables.specs.Sizes.{cut}
use Rattle.verdicts.specs.Verdicts.{w_of, h_of, FirstOutside, add_front, float_front}
use Rattle.pixels.specs.Calls.{strict, clamped, add_of, float_of}
use Rattle.pixels.proofs.Strict.{add-accepts, add_seven, add-seven-only, float-accepts, float-seven, float-seven-only}

module _ (dst : List ℤ) (stride : ℕ) (cs : List ℤ) (txtp tx depth : ℕ) where
  pub add-strict : (add_of strict dst stride cs txtp tx depth).0.number ≡ 0 → add_of strict dst stride cs txtp tx depth ≡ add_of clamped dst stride cs txtp tx depth
  add-strict = add-accepts dst stride cs txtp tx depth

  module _ (fits : (add_front (length dst) stride (length cs) txtp tx depth done).number ≡ 0) where
    pub add-refused : (k : ℕ) → FirstOutside depth (cut (w_of tx) * cut (h_of tx)) cs k → (add_of strict dst stride cs txtp tx depth).0 ≡ refused 7 1 k
    add-refused = add_seven dst stride cs txtp tx depth fits

    pub add-exactly : (add_of strict dst stride cs txtp tx depth).0.number ≡ 7 → FirstOutside depth (cut (w_of tx) * cut (h_of tx)) cs (add_of strict dst stride cs txtp tx depth).0.place
    add-exactly = add-seven-only dst stride cs txtp tx depth fits

module _ (out : List Float) (cs : List ℤ) (txtp tx depth : ℕ) (pred : List ℤ) where
  pub float-strict : (float_of strict out cs txtp tx depth pred).0.number ≡ 0 → float_of strict out cs txtp tx depth pred ≡ float_of clamped out cs txtp tx depth pred
  float-strict = float-accepts out cs txtp tx depth pred

  module _ (fits : (float_front (length out) (length cs) txtp tx depth (length pred) done).number ≡ 0) where
    pub float-refused : (k : ℕ) → FirstOutside depth (cut (w_of tx) * cut (h_of tx)) cs k → (float_of strict out cs txtp tx depth pred).0 ≡ refused 7 1 k
    float-refused = float-seven out cs txtp tx depth pred fits

    pub float-exactly : (float_of strict out cs txtp tx depth pred).0.number ≡ 7 → FirstOutside depth (cut (w_of tx) * cut (h_of tx)) cs (float_of strict out cs txtp tx depth pred).0.place
    float-exactly = float-seven-only out cs txtp tx depth pred fits
