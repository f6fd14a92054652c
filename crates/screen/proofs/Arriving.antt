-- A 4x4 block that is ready for a change. Assumes nothing.
--     ready-is       it stands on the screen, and its samples are in range
--     levels-ready   the levels of the change are the transform of the wanted samples less the present ones
--     ready-there    and the block is ready for a step
use mathlib.Core.Path.{◌≡◌, sym}
use mathlib.Core.Bool.{true}
use mathlib.Core.List.{List}
use Prim.Native.Nat.{ℕ, ◌+◌, ◌*◌, ◌≤◌}
use native.Mathlib.Nat.{le_trans}
use native.Mathlib.Omega.{arith}
use borrow.Author.Tests.{le-leb, leb-true}
use lib.Dec.{leb}
use lib.IntN.{ℤ, pos}
use lib.ListN.{length}
use Rattle.whole.specs.Numbers.{highest}
use Rattle.whole.proofs.Search.{seek-passed}
use Rattle.whole.proofs.Tests.{both, and-true}
use Rattle.ranges.specs.Cells.{cell_ok}
use Rattle.wht.specs.Wht.{fwht}
use Rattle.lossless.specs.Step.{place}
use Rattle.lossless.specs.Wanted.{Ready, difference}
use Rattle.screen.specs.Planes.{stands_of}
use Rattle.screen.specs.Steps.{ready, levels_to}
use Rattle.screen.proofs.Planes.{stands-is, block-fits}
use Rattle.screen.proofs.Levels.{found, levels-new}

module _ (d t w h row column : ℕ) (p b l : List ℤ) (on : ready d t w h row column p ≡ true) where
  tests : (stands_of w h row column 4 4 ≡ true) × (leb 16 (found d t w h row column p b l) ≡ true)
  tests = both (stands_of w h row column 4 4) (leb 16 (found d t w h row column p b l)) on

  in-range : 16 ≤ found d t w h row column p b l
  in-range = leb-true 16 (found d t w h row column p b l) tests.1

  pub ready-is : (column + 4 ≤ w) × (row + 4 ≤ h)
  ready-is = stands-is w h row column 4 4 tests.0

  pub levels-ready : levels_to d t w h row column p b l ≡ fwht (difference p (place d t w row column) b)
  levels-ready = sym (levels-new d t w h row column p b l tests.0 in-range)

  pub ready-there : 8 ≤ d → d ≤ 12 → w ≤ t → t ≤ 320 → h ≤ 256 → length p ≡ t * h → Ready p (place d t w row column)
  ready-there d8 d12 wide few high long =
      record {
        depths = and-true (le-leb 8 d d8) (le-leb d 12 d12);
        wide = and-true (le-leb 4 t (omega (arith, ready-is.0, wide))) (le-leb t 65536 (omega (arith, few)));
        visible = and-true (le-leb 4 w (omega (arith, ready-is.0))) (le-leb w t wide);
        fit =
            and-true (le-leb row 65535 (omega (arith, ready-is.1, high)))
            (and-true (le-leb (column + 4) w ready-is.0) (le-leb ((row + 3) * t + column + 4) (length p) reach));
        present = seek-passed (cell_ok (pos 0) (highest d) p (row * t + column) t 4) 16 in-range;
      }
    where
      reach : (row + 3) * t + column + 4 ≤ length p
      reach = omega (arith, block-fits t h row column 4 3 (le_trans ready-is.0 wide) ready-is.1, long)
