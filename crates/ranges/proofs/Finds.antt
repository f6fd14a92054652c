-- What a search answers: `Finds` of ranges/specs/Cells.antt. Assumes nothing.
--     finds-same     equal tests are failed at the same number
use mathlib.Core.Path.{◌≡◌, sym, ◌∙◌}
use mathlib.Core.Bool.{Bool}
use Prim.Native.Nat.{ℕ, ◌<◌, ◌+◌}
use Rattle.std.specs.Prelude.{Option, Some, None}
use Rattle.whole.proofs.Search.{seek-same}
use Rattle.ranges.specs.Cells.{Finds}

pub finds-same : (p q : ℕ → Bool) (n : ℕ) → ((k : ℕ) → k < 0 + n → p k ≡ q k) → (r : Option ℕ) → Finds p n r → Finds q n r
finds-same p q n e None f = sym (seek-same p q 0 n e) ∙ f
finds-same p q n e (Some k) f = (sym (seek-same p q 0 n e) ∙ f.0, f.1)
