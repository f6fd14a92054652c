-- The levels of a change. Assumes nothing.
--     levels-off, levels-bad, levels-new     the levels to a wanted block: as they were where the block doesn't stand or has a bad sample, else the transform
--     gap            a wanted sample less a present one: the difference fits, and is theirs
--     gaps-small     sixteen of them are small enough for the forward transform
use mathlib.Core.Path.{◌≡◌, refl}
use mathlib.Core.Bool.{true, false}
use mathlib.Core.List.{List}
use Prim.Native.Nat.{ℕ, ◌+◌, ◌*◌, ◌≤◌, ◌<◌}
use native.Mathlib.Nat.{le_trans}
use borrow.Author.Tests.{le-leb, lt-leb}
use lib.Dec.{lit<, lit≤}
use lib.IntN.{ℤ, pos, ◌-ℤ◌}
use mir.Syntax.{w32}
use mir.Val.{to_z, of_z}
use Rattle.whole.specs.Sums.{item}
use Rattle.whole.specs.Numbers.{highest}
use Rattle.whole.specs.Search.{seek, cell_at}
use Rattle.whole.proofs.Fill.{within-tab}
use Rattle.whole.proofs.Num.{Num, made, minus}
use Rattle.ranges.specs.Cells.{cell_ok}
use Rattle.wht.specs.Calls.{Sixteen}
use Rattle.wht.specs.Wht.{fwht}
use Rattle.lossless.specs.Step.{place}
use Rattle.lossless.specs.Wanted.{difference}
use Rattle.screen.specs.Planes.{stands_of}
use Rattle.screen.specs.Steps.{gaps_of, levels_to, Near}

pub gap : {p : List ℤ} {start stride : ℕ} {b : List ℤ} → Near p start stride b → (k : ℕ) → k < 16
    → Num (to_z w32 (of_z w32 (item b k)) -ℤ to_z w32 (of_z w32 (item p (cell_at start stride 4 k)))) (item b k -ℤ item p (cell_at start stride 4 k)) (4095 + 4095)
gap {p} {start} {stride} {b} n k h =
    minus (made w32 {z = item b k} (n.wanted k h) (lit< tt)) (made w32 {z = item p (cell_at start stride 4 k)} (n.present k h) (lit< tt))

pub gaps-small : {p : List ℤ} {start stride : ℕ} {b : List ℤ} → Near p start stride b → Sixteen 65535 (gaps_of p start stride b)
gaps-small {p} {start} {stride} {b} n =
    record { count = refl; small = within-tab 65535 16 (λ k. item b k -ℤ item p (cell_at start stride 4 k)) (λ k h. le_trans (gap n k h).size (lit≤ tt)) }

module _ (depth stride width height row column : ℕ) (p b l : List ℤ) where
  -- where the search for a bad sample ends
  abbrev pub found : ℕ
  found = seek (cell_ok (pos 0) (highest depth) p (row * stride + column) stride 4) 0 16

  pub levels-off : stands_of width height row column 4 4 ≡ false → l ≡ levels_to depth stride width height row column p b l
  unfolding levels_to
  levels-off e = rw e

  pub levels-bad : stands_of width height row column 4 4 ≡ true → found < 16 → l ≡ levels_to depth stride width height row column p b l
  unfolding levels_to
  levels-bad e h = rw (e, lt-leb 16 found h)

  pub levels-new : stands_of width height row column 4 4 ≡ true → 16 ≤ found → fwht (difference p (place depth stride width row column) b) ≡ levels_to depth stride width height row column p b l
  unfolding levels_to
  levels-new e h = rw (e, le-leb 16 found h)
