-- What the internal functions do and may rely on. Definitions only.
use Rattle.std.specs.Prelude.{Bool, true, false, List, map, ℕ, ◌+◌, ◌*◌, ◌≤◌, ◌<◌, ℤ, neg_ℤ, nat_abs, length}
use Rattle.whole.specs.Sums.{item}
use Rattle.whole.specs.Search.{cell_at}
use Rattle.wht.specs.Calls.{Sixteen}
use Rattle.wht.specs.Wht.{iwht}

-- the block lies in the plane, its samples and what they are to gain are small
pub record Addable (p : List ℤ) (start stride : ℕ) (g : List ℤ) : Type 0 where
  pub reach : start + 3 * stride + 4 ≤ length p
  pub small : (k : ℕ) → k < 16 → nat_abs (item p (cell_at start stride 4 k)) ≤ 4095
  pub gains : Sixteen 1048576 g

-- what the samples gain in a step, and in an undo
abbrev pub change : Bool → List ℤ → List ℤ
change false l = iwht l
change true l = map neg_ℤ (iwht l)
