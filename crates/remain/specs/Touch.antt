-- Which steps share a sample, and the last-touch index. Definitions only; from document 02, section 9.
--     shares r c r' c'          the 4x4 blocks at row r, column c and at row r', column c' share a sample
--     last_touch r c ms          the number of the first of ms, newest first, that shares a sample with the block at r, c; 0 for none
--     across n                  how many cells of four cover n samples
--     index_of width rows ms     the whole index, row by row of 4x4 grid cells. A step's block lies in the visible area,
--                               so it shares a sample with a cell cut by an edge where it shares one with the whole cell
--     mended w ms r c x         the index x, w cells to a row, with the at most four cells of the block at r, c computed anew
use Rattle.std.specs.Prelude.{Bool, cond, ◌&&◌, List, [], ◌∷◌, ℕ, ◌+◌, ◌*◌, ◌/◌, ◌%◌, ltb, eqb, set}
use Rattle.whole.specs.Sums.{tab}
use Rattle.remain.specs.Remaining.{Mark, count, word, mark_at, last}

abbrev pub near : ℕ → ℕ → Bool
near a b = ltb a (b + 4) && ltb b (a + 4)

abbrev pub shares : ℕ → ℕ → ℕ → ℕ → Bool
shares r c r' c' = near r r' && near c c'

abbrev pub touches : ℕ → ℕ → Mark → Bool
touches r c m = shares r c m.row m.column

unfoldable pub last_touch : ℕ → ℕ → List Mark → ℕ
last_touch r c [] = 0
last_touch r c (m ∷ ms) = cond (touches r c m) m.number (last_touch r c ms)

-- the same by place in memory: the latest of n steps that shares a sample, counted from 1; 0 for none
abbrev pub latest : List ℕ → ℕ → ℕ → ℕ → ℕ
latest s r c n = last (λ i. touches r c (mark_at s i)) n

-- no later step shares a sample with step i: the latest that does is step i itself
abbrev pub free : List ℕ → ℕ → Bool
free s i = eqb (latest s (word s i 2) (word s i 3) (count s)) (i + 1)

abbrev pub across : ℕ → ℕ
across n = (n + 3) / 4

abbrev pub index_of : ℕ → ℕ → List Mark → List ℕ
index_of width rows ms = tab (across rows * across width) (λ i. last_touch (i / across width * 4) (i % across width * 4) ms)

abbrev pub cell_to : ℕ → List Mark → ℕ → ℕ → List ℕ → List ℕ
cell_to w ms y x i = set i (y * w + x) (last_touch (y * 4) (x * 4) ms)

-- the cells at the block's four corners; some may be the same
unfoldable pub mended : ℕ → List Mark → ℕ → ℕ → List ℕ → List ℕ
mended w ms r c i =
    cell_to w ms ((r + 3) / 4) ((c + 3) / 4)
    (cell_to w ms ((r + 3) / 4) (c / 4)
    (cell_to w ms (r / 4) ((c + 3) / 4)
    (cell_to w ms (r / 4) (c / 4) i)))
