-- The rows of the narrow passes, from document 01, "From coefficients to pixels", at depth 8. Definitions only; g r x is row r, column x of a block.
--     Loaded live k f old new          sixteen lines side by side: the first live numbers of the first k lines are f, the numbers from live on as they were
--     cell_of sh work q r m             the work area has groups of sh rows of sixteen numbers: number m of row r of group q is row r, column 16 q + m of the block
--     Area sw sh work                  the work area has all groups of a block of sw columns
--     Grouped sw sh a k f old new      row a + l of the block is f l, for the first k numbers l; every other row of it is as it was
--     dct_of n, after_rows               the DCT of n numbers; what the rows leave, rounded and clamped to 16 bits
--     Dry sw sh live g                 nothing but 0 enters from column live on
use Rattle.std.specs.Prelude.{◌≡◌, ◌⊎◌, List, ℕ, ◌+◌, ◌*◌, ◌≤◌, ◌<◌, ℤ, pos, length}
use Rattle.whole.specs.Sums.{dense_c}
use Rattle.whole.specs.Grid.{rows_by}
use Rattle.tables.specs.Dense.{dct_table}
use Rattle.passes.specs.Passes.{settled_to}
use Rattle.wide_rows.specs.Lines.{line}

pub record Loaded (live k : ℕ) (f : ℕ → ℕ → ℤ) (old new : List ℤ) : Type 0 where
  pub long : length new ≡ length old
  pub holds : (l x : ℕ) → l < k → x < live → line new l x ≡ f l x
  pub rest : (l x : ℕ) → l < 16 → live ≤ x → line new l x ≡ line old l x

abbrev pub cell_of : ℕ → List ℤ → ℕ → ℕ → ℕ → ℤ
cell_of sh work q r m = line work m (q * sh + r)

abbrev pub Area : ℕ → ℕ → List ℤ → Type 0
Area sw sh work = (q : ℕ) → 16 * q < sw → (q * sh + sh) * 16 ≤ length work

pub record Grouped (sw sh a k : ℕ) (f : ℕ → ℕ → ℤ) (old new : List ℤ) : Type 0 where
  pub long : length new ≡ length old
  pub holds : (q l m : ℕ) → m < 16 → 16 * q + m < sw → l < k → cell_of sh new q (a + l) m ≡ f l (16 * q + m)
  pub others : (q r m : ℕ) → m < 16 → 16 * q < sw → r < sh → ((r < a) ⊎ (a + k ≤ r)) → cell_of sh new q r m ≡ cell_of sh old q r m

abbrev pub dct_of : ℕ → List ℤ → List ℤ
dct_of n = dense_c n (dct_table n)

abbrev pub after_rows : ℕ → ℕ → (ℕ → ℕ → ℤ) → ℕ → ℕ → ℤ
after_rows sw shift g r x = settled_to 15 shift (rows_by (dct_of sw) sw g r x)

abbrev pub Dry : ℕ → ℕ → ℕ → (ℕ → ℕ → ℤ) → Type 0
Dry sw sh live g = (r x : ℕ) → r < sh → live ≤ x → x < sw → g r x ≡ pos 0
