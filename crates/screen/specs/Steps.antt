-- The levels of a change into a wanted block. Definitions only.
--     wanted list               the sixteen wanted samples of a change, from the numbers of its line
--     ready                     whether a 4x4 block stands on the screen and its samples are in range
--     levels_to                  where it is, the forward transform of the wanted samples less the present ones; else the levels that were there
--     gaps_of, Near              sixteen wanted samples less the present ones of a block at start; all of them numbers of size at most 4095
use Rattle.std.specs.Prelude.{◌≡◌, Bool, ◌&&◌, cond, List, ℕ, ◌+◌, ◌*◌, ◌≤◌, ◌<◌, leb, ℤ, pos, nat_abs, ◌-ℤ◌, length, take, drop}
use Rattle.whole.specs.Numbers.{highest}
use Rattle.whole.specs.Sums.{tab, item}
use Rattle.whole.specs.Search.{seek, cell_at}
use Rattle.ranges.specs.Cells.{cell_ok}
use Rattle.wht.specs.Wht.{fwht}
use Rattle.lossless.specs.Step.{place}
use Rattle.lossless.specs.Wanted.{difference}
use Rattle.screen.specs.Planes.{stands_of}

abbrev pub wanted : List ℤ → List ℤ
wanted list = take 16 (drop 2 list)

abbrev pub ready : ℕ → ℕ → ℕ → ℕ → ℕ → ℕ → List ℤ → Bool
ready depth stride width height row column p =
    stands_of width height row column 4 4 && leb 16 (seek (cell_ok (pos 0) (highest depth) p (row * stride + column) stride 4) 0 16)

unfoldable pub levels_to : ℕ → ℕ → ℕ → ℕ → ℕ → ℕ → List ℤ → List ℤ → List ℤ → List ℤ
unfolding seek
levels_to depth stride width height row column p b l =
    cond (ready depth stride width height row column p) (fwht (difference p (place depth stride width row column) b)) l

abbrev pub gaps_of : List ℤ → ℕ → ℕ → List ℤ → List ℤ
gaps_of p start stride b = tab 16 (λ k. item b k -ℤ item p (cell_at start stride 4 k))

pub record Near (p : List ℤ) (start stride : ℕ) (b : List ℤ) : Type 0 where
  pub count : length b ≡ 16
  pub wanted : (k : ℕ) → k < 16 → nat_abs (item b k) ≤ 4095
  pub present : (k : ℕ) → k < 16 → nat_abs (item p (cell_at start stride 4 k)) ≤ 4095
