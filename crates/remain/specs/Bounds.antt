-- What the functions may rely on. Definitions only.
--     Lying s width rows n     the blocks of the first n steps lie in the visible area
use Rattle.std.specs.Prelude.{ℕ, ◌+◌, ◌≤◌, ◌<◌, List}
use Rattle.remain.specs.Remaining.{word}

pub record Lying (s : List ℕ) (width rows n : ℕ) : Type 0 where
  pub right : (i : ℕ) → i < n → word s i 3 + 4 ≤ width
  pub low : (i : ℕ) → i < n → word s i 2 + 4 ≤ rows
