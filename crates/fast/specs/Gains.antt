-- The columns of the narrow passes, whose results go straight into the picture. Definitions only.
--     gain_of p e               a sample with a residual, clamped to 0 .. 255
--     Side n, twice n          the sides of a block; a side of 64 repeats each result, as a power of two
--     residual_by shift C       the residual of row y, column x of the results C, each of which serves 2^across samples of 2^down rows; rounded, not clamped
--     gains_of                  what a block gains, its first sample at from
--     Shown                    the block's rows lie in the picture, and no sample is larger than 4,096
--     group_of sh work          the work area by rows and columns
--     residual8, gained_by      the whole block: its residuals, and the plane that gains them
--     Results, Ready8          what a group's columns leave, and the rows
--     Narrow, Seen, Lent8      what the narrow passes ask of the coefficients, of the picture and of the areas that are lent to them
--     Room8                    what they ask of the sizes of areas that are cleared for them
use Rattle.std.specs.Prelude.{◌≡◌, Bool, true, cond, List, ℕ, ◌+◌, ◌*◌, ◌/◌, ◌%◌, ◌^◌, ◌≤◌, ◌<◌, leb, ℤ, pos, nat_abs, ◌+ℤ◌, length, get_or}
use Rattle.whole.specs.Numbers.{in_range, clamp, round_shift, highest}
use Rattle.whole.specs.Sums.{tab}
use Rattle.whole.specs.Grid.{in_block}
use Rattle.tables.specs.Sizes.{cut, scaled}
use Rattle.passes.specs.Passes.{settled_to, middle_of, block_of, Scalable}
use Rattle.wide_rows.specs.Lines.{line}
use Rattle.fast.specs.Groups.{cell_of, Area}

abbrev pub gain_of : ℤ → ℤ → ℤ
gain_of p e = clamp (pos 0) (pos 255) (p +ℤ e)

pub data Side : ℕ → Type 0 where
  d8 : Side 8
  d16 : Side 16
  d32 : Side 32
  d64 : Side 64

abbrev pub twice : ℕ → ℕ
twice n = cond (leb n 32) 0 1

abbrev pub residual_by : ℕ → ℕ → ℕ → (ℕ → ℕ → ℤ) → ℕ → ℕ → ℤ
residual_by shift across down C y x = round_shift shift (C (y / 2 ^ down) (x / 2 ^ across))

abbrev pub gains_of : List ℤ → ℕ → ℕ → (ℕ → ℕ → ℤ) → ℕ → ℕ → ℤ
gains_of dst from stride R y x = gain_of (get_or dst (from + y * stride + x) (pos 0)) (R y x)

pub record Shown (from stride w h : ℕ) (dst : List ℤ) : Type 0 where
  pub wide : w ≤ stride
  pub inside : (y : ℕ) → y < h → from + y * stride + w ≤ length dst
  pub small : (y x : ℕ) → y < h → x < w → nat_abs (get_or dst (from + y * stride + x) (pos 0)) ≤ 4096

abbrev pub group_of : ℕ → List ℤ → ℕ → ℕ → ℤ
group_of sh work r x = cell_of sh work (x / 16) r (x % 16)

-- ---- the whole block
-- the residual of row y, column x of a block of w by h whose kinds are both DCT, at depth 8
abbrev pub residual8 : Bool → ℕ → ℕ → ℕ → ℕ → List ℤ → ℕ → ℕ → ℤ
residual8 rowwise w h first second cs y x = settled_to 8 second (block_of rowwise w h first 0 0 8 cs (y / 2 ^ twice h) (x / 2 ^ twice w))

-- sample i of the plane: inside the block a pixel with its residual R, elsewhere what it was
abbrev pub gained_by : ℕ → ℕ → (ℕ → ℕ → ℤ) → List ℤ → ℕ → List ℤ
gained_by w h R dst stride =
    tab (length dst) (λ i. cond (in_block stride w h i) (clamp (pos 0) (highest 8) (get_or dst i (pos 0) +ℤ R (i / stride) (i % stride))) (get_or dst i (pos 0)))

-- what the narrow passes ask of the coefficients
pub record Narrow (w h first : ℕ) (cs : List ℤ) : Type 0 where
  pub across : Side w
  pub down : Side h
  pub before : first ≤ 16
  pub long : cut w * cut h ≤ length cs
  pub range : Scalable (scaled w h) (cut w * cut h) cs

-- and of the picture: its samples are those of depth 8
pub record Seen (w h stride : ℕ) (dst : List ℤ) : Type 0 where
  pub wide : w ≤ stride
  pub inside : (y : ℕ) → y < h → y * stride + w ≤ length dst
  pub samples : (y x : ℕ) → y < h → x < w → in_range (pos 0) (pos 255) (get_or dst (y * stride + x) (pos 0)) ≡ true

-- and of the lent areas: room for the lines, the results and the groups of the block, and nothing but 0 in the lines and the groups
pub record Lent8 (w h : ℕ) (work t out : List ℤ) : Type 0 where
  pub lines : cut w * 16 ≤ length t
  pub results : cut w * 16 ≤ length out
  pub others : cut h * 16 ≤ length out
  pub area : Area (cut w) (cut h) work
  pub clear : (i : ℕ) → get_or work i (pos 0) ≡ pos 0
  pub silent : (i : ℕ) → get_or t i (pos 0) ≡ pos 0

-- and of the sizes of areas that are cleared for it: W places for the groups of the block, T for the lines and their results
pub record Room8 (w h W T : ℕ) : Type 0 where
  pub lines : cut w * 16 ≤ T
  pub others : cut h * 16 ≤ T
  pub area : (q : ℕ) → 16 * q < cut w → (q * cut h + cut h) * 16 ≤ W
  pub most : W ≤ 1024
  pub each : T ≤ 512

-- ---- what the stages leave
-- the results of a group: number l of row r is C r l
pub record Results (sh : ℕ) (C : ℕ → ℕ → ℤ) (out : List ℤ) : Type 0 where
  pub is : (r l : ℕ) → r < sh → l < 16 → line out l r ≡ C r l
  pub small : (r l : ℕ) → r < sh → l < 16 → nat_abs (line out l r) ≤ 2 ^ 24 + 4 * 2 ^ 26

-- the work area after the rows, of which the first live may be other than 0
pub record Ready8 (rowwise : Bool) (w h first : ℕ) (cs work : List ℤ) (live : ℕ) : Type 0 where
  pub most : live ≤ cut h
  pub area : Area (cut w) (cut h) work
  pub middle : (r x : ℕ) → r < cut h → x < cut w → group_of (cut h) work r x ≡ middle_of rowwise w h first 0 8 cs r x
  pub empty : (q r m : ℕ) → m < 16 → 16 * q < cut w → live ≤ r → r < cut h → cell_of (cut h) work q r m ≡ pos 0
