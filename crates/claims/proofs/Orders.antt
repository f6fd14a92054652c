-- Coefficients row by row, from document 02, section 1: number r * sw + x is row r, column x. Assumes nothing.
-- Of a list in column order and its turned copy in row order, whatever stands past their sw * sh numbers, for every size, kind and depth:
--     add-orders, float-orders    the two calls give the same number; and where it is 0, the same answer and the same slice left
use mathlib.Core.Path.{◌≡◌}
use mathlib.Core.List.{List}
use Prim.Native.Nat.{ℕ}
use lib.Ieee
use lib.Ieee.{Float}
use lib.IntN.{ℤ}
use Rattle.tables.specs.Sizes.{cut}
use Rattle.verdicts.specs.Verdicts.{w_of, h_of}
use Rattle.pixels.specs.Calls.{strict, strict_rows, Turned, add_of, float_of}
use Rattle.pixels.proofs.Turned.{add_turned, float-turned}

module _ (tx txtp depth : ℕ) (cs ds : List ℤ) (turned : Turned (cut (w_of tx)) (cut (h_of tx)) cs ds) where
  pub add-orders : (dst : List ℤ) (stride : ℕ)
      → ((add_of strict dst stride cs txtp tx depth).0.number ≡ (add_of strict_rows dst stride ds txtp tx depth).0.number)
      × ((add_of strict dst stride cs txtp tx depth).0.number ≡ 0 → add_of strict dst stride cs txtp tx depth ≡ add_of strict_rows dst stride ds txtp tx depth)
  add-orders dst stride = add_turned tx txtp depth cs ds turned dst stride

  pub float-orders : (out : List Float) (pred : List ℤ)
      → ((float_of strict out cs txtp tx depth pred).0.number ≡ (float_of strict_rows out ds txtp tx depth pred).0.number)
      × ((float_of strict out cs txtp tx depth pred).0.number ≡ 0 → float_of strict out cs txtp tx depth pred ≡ float_of strict_rows out ds txtp tx depth pred)
  float-orders out pred = float-turned tx txtp depth cs ds turned out pred
