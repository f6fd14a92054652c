-- The numbers of a lane record, and of a list of them: `at r k` is number k of the record r, for any record. Definitions only.
--     lane r k                 number k of a record of N numbers, 0 past its last
--     Inputs at n ls           the first n numbers of every transform are within 2^19: the coefficients clamped at depth 12
--     Live at n live ls        of n inputs the first live count, and in every transform these are within 2^19; the others may be any (document 02, §7)
--     Through at n K ls rs     in every transform the first n numbers of rs are what K makes of the first n of ls
--     Ready at n ls            n records, and in every transform their numbers are within 2^19
--     Across at n K ls rs      in every transform the first n numbers of rs are what K makes of those of ls
use Rattle.std.specs.Prelude.{◌≡◌, List, ℕ, ◌^◌, ◌≤◌, ℤ, pos, length, get_or, take}
use Rattle.whole.specs.Sums.{Within}
use Rattle.whole.specs.Lanes.{col}
use Rattle.tables.specs.Dense.{first_of}
use Rattle.lanes.specs.declared.Lane.{Lane}

abbrev pub lane : {N : ℕ} → Lane N → ℕ → ℤ
lane r k = get_or r.0 k (pos 0)

module _ {R : Type 0} (at : R → ℕ → ℤ) where
  abbrev pub Inputs : ℕ → List R → Type 0
  Inputs n ls = (k : ℕ) → Within (2 ^ 19) (take n (col at k ls))

  abbrev pub Live : ℕ → ℕ → List R → Type 0
  Live n live ls = (live ≤ n) × ((k : ℕ) → Within (2 ^ 19) (first_of live (take n (col at k ls))))

  abbrev pub Through : ℕ → (List ℤ → List ℤ) → List R → List R → Type 0
  Through n K ls rs = (k : ℕ) → take n (col at k rs) ≡ K (take n (col at k ls))

  abbrev pub Ready : ℕ → List R → Type 0
  Ready n ls = (length ls ≡ n) × ((k : ℕ) → Within (2 ^ 19) (col at k ls))

  abbrev pub Across : ℕ → (List ℤ → List ℤ) → List R → List R → Type 0
  Across n K ls rs = (k : ℕ) → take n (col at k rs) ≡ K (col at k ls)
