-- The passes, from document 01, "From coefficients to pixels", down to the columns. Definitions only; g r x is row r, column x.
--     scaling      of a coefficient: floor ((181 v + 128) / 256) where the size asks for it
--     entry        a coefficient as it enters: scaled where log2 w + log2 h is odd, then clamped to -2^(depth+7) .. 2^(depth+7) - 1
--     Scalable     the range in which a scaled coefficient is accepted, for the first n numbers
--     number_at     the coefficient of row r, column x is number r + x * sh; in row order, of document 02, section 1, number r * sw + x
--     loaded       what enters at row r, column x
--     clamp_to      to -2^bits .. 2^bits - 1
--     settled_to    half of 2^shift added, divided by 2^shift, rounded down, clamped: after the rows to the same range
--     block_of      every row through the horizontal kernel, the step between, every column through the vertical kernel
--     passes_of     the same for a size number and a type number
--     Dead         no coefficient of the rows from rows on, or of the columns from cols on, is other than 0 (document 02, section 7)
--     DeadLines, DeadFours     the same of the lines from live on, and of the places from live on in the first lines; a line is size numbers, a column or a row
use Rattle.std.specs.Prelude.{◌≡◌, ◌⊎◌, Bool, true, cond, List, ℕ, ◌+◌, ◌*◌, ◌≤◌, ◌<◌, ℤ, pos, negsuc, ◌+ℤ◌, ◌*ℤ◌, length, get_or}
use Rattle.whole.specs.Numbers.{in_range, clamp, floor_div, round_shift, lowest, highest}
use Rattle.whole.specs.Grid.{rows_by, cols_by}
use Rattle.tables.specs.Sizes.{size_at, cut, scaled}
use Rattle.tables.specs.Kinds.{hor_of, ver_of, has_kind}
use Rattle.tables.specs.Dense.{dense_of}

abbrev pub clamp_to : ℕ → ℤ → ℤ
clamp_to bits z = clamp (lowest bits) (highest bits) z

unfoldable pub scaling : Bool → ℤ → ℤ
scaling scale v = cond scale (floor_div (pos 181 *ℤ v +ℤ pos 128) 256) v

abbrev pub entry : Bool → ℕ → ℤ → ℤ
entry scale depth v = clamp_to (depth + 7) (scaling scale v)

abbrev pub settled_to : ℕ → ℕ → ℤ → ℤ
settled_to bits shift z = clamp_to bits (round_shift shift z)

abbrev pub number_at : Bool → ℕ → ℕ → ℕ → ℕ → ℕ
number_at rowwise sw sh r x = cond rowwise (r * sw + x) (r + x * sh)

abbrev pub loaded : Bool → Bool → ℕ → ℕ → ℕ → List ℤ → ℕ → ℕ → ℤ
loaded rowwise scale depth sw sh cs r x = entry scale depth (get_or cs (number_at rowwise sw sh r x) (pos 0))

-- the passes of a block of w by h, with the shift after its rows and the kinds of its rows and columns
abbrev pub middle_of : Bool → ℕ → ℕ → ℕ → ℕ → ℕ → List ℤ → ℕ → ℕ → ℤ
middle_of rowwise w h first hor depth cs r x = settled_to (depth + 7) first (rows_by (dense_of w hor) (cut w) (loaded rowwise (scaled w h) depth (cut w) (cut h) cs) r x)

abbrev pub block_of : Bool → ℕ → ℕ → ℕ → ℕ → ℕ → ℕ → List ℤ → ℕ → ℕ → ℤ
block_of rowwise w h first hor ver depth cs = cols_by (dense_of h ver) (cut h) (middle_of rowwise w h first hor depth cs)

unfoldable pub passes_of : Bool → ℕ → ℕ → ℕ → List ℤ → ℕ → ℕ → ℤ
unfolding dense_of scaling clamp
passes_of rowwise tx txtp depth cs = block_of rowwise (size_at tx).w (size_at tx).h (size_at tx).first (hor_of txtp) (ver_of txtp) depth cs

-- the first n numbers of cs may be scaled, where the size asks for it
abbrev pub scalable : ℤ → Bool
scalable v = in_range (negsuc 11864549) (pos 11864549) v

abbrev pub Scalable : Bool → ℕ → List ℤ → Type 0
Scalable scale n cs = (k : ℕ) → k < n → scale ≡ true → scalable (get_or cs k (pos 0)) ≡ true

-- a block of which no number outside the first cols columns of the first rows rows is other than 0
abbrev pub Dead : Bool → ℕ → ℕ → ℕ → ℕ → List ℤ → Type 0
Dead rowwise sw sh cols rows cs = (r x : ℕ) → r < sh → x < sw → ((rows ≤ r) ⊎ (cols ≤ x)) → get_or cs (number_at rowwise sw sh r x) (pos 0) ≡ pos 0

-- the lines live .. lines - 1 hold no number other than 0
abbrev pub DeadLines : ℕ → ℕ → ℕ → List ℤ → Type 0
DeadLines live lines size cs = (r x : ℕ) → r < size → live ≤ x → x < lines → get_or cs (r + x * size) (pos 0) ≡ pos 0

-- the places live .. size - 1 of the first lines hold no number other than 0
abbrev pub DeadFours : ℕ → ℕ → ℕ → List ℤ → Type 0
DeadFours live lines size cs = (r x : ℕ) → live ≤ r → r < size → x < lines → get_or cs (r + x * size) (pos 0) ≡ pos 0

-- what the passes ask of a block
pub record Block (w h first hor ver depth : ℕ) (cs : List ℤ) : Type 0 where
  pub across : has_kind w hor ≡ true
  pub down : has_kind h ver ≡ true
  pub shift : first ≤ 16
  pub deep : depth ≤ 12
  pub long : cut w * cut h ≤ length cs
  pub range : Scalable (scaled w h) (cut w * cut h) cs

abbrev pub Ready : ℕ → ℕ → ℕ → List ℤ → Type 0
Ready tx txtp depth cs = Block (size_at tx).w (size_at tx).h (size_at tx).first (hor_of txtp) (ver_of txtp) depth cs

-- the sides of the work area of a size
abbrev pub sw_of : ℕ → ℕ
sw_of tx = cut (size_at tx).w

abbrev pub sh_of : ℕ → ℕ
sh_of tx = cut (size_at tx).h
