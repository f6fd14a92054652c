-- A block of a list that is written row by row: n rows of w places, the rows stride apart, the first place at from. Definitions only.
--     Painted d from stride w n f old new     the block now holds f, every other place is as it was; d is what is read past an end
use Rattle.std.specs.Prelude.{◌≡◌, List, ℕ, ◌+◌, ◌*◌, ◌<◌, length, get_or}

pub record Painted {A : Type 0} (d : A) (from stride w n : ℕ) (f : ℕ → ℕ → A) (old new : List A) : Type 0 where
  pub long : length new ≡ length old
  pub holds : (r x : ℕ) → r < n → x < w → get_or new (from + r * stride + x) d ≡ f r x
  pub others : (i : ℕ) → ((r x : ℕ) → r < n → x < w → i ≡ from + r * stride + x → ⊥) → get_or new i d ≡ get_or old i d
