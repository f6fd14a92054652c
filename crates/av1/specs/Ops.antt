-- What the last byte of a step means. Definitions only.
--     IsOp g op     the byte g stands for op
use Rattle.std.specs.Prelude.{◌≡◌, ℕ, ◌+◌, ◌≤◌, ◌<◌}
use Rattle.av1.specs.declared.steps.Op.{Op}
use Rattle.av1.specs.declared.steps.Op.TheVariants as O

abbrev pub IsOp : ℕ → Op → Type 0
IsOp g O.Sums = g ≡ 0
IsOp g (O.Turn h) = (0 < g) × (g < 128) × (h ≡ g)
IsOp g (O.Crossed h) = (128 ≤ g) × (h + 128 ≡ g)
