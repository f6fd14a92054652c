-- What the functions may rely on. Definitions only.
--     Keeping a s l k        the tests of 5 and 12 passed; k is the index's length
use Rattle.std.specs.Prelude.{◌≡◌, true, List, ℕ, ◌*◌, ◌≤◌, ◌<◌, ℤ, length}
use Rattle.remain.specs.Remaining.{count}
use Rattle.remain.specs.Touch.{across}
use Rattle.keeping.specs.Range.{Area, shaped, entry_ok}

pub record Keeping (a : Area) (s : List ℕ) (l : List ℤ) (k : ℕ) : Type 0 where
  pub shape : shaped a ≡ true
  pub steps : length s ≡ 16385
  pub levels : length l ≡ 65536
  pub cells : k ≡ across a.rows * across a.width
  pub most : count s ≤ 4096
  pub each : (i : ℕ) → i < count s → entry_ok a s l i ≡ true
