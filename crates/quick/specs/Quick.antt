-- The blocks that the narrow passes take. Definitions only.
--     Quick      depth 8, two DCTs, both sides at least 8
use Rattle.std.specs.Prelude.{◌≡◌, ℕ, ◌<◌}
use Rattle.tables.specs.Kinds.{hor_of, ver_of}
use Rattle.verdicts.specs.Verdicts.{w_of, h_of}
use Rattle.fast.specs.Gains.{Side}

pub record Quick (txtp tx depth : ℕ) : Type 0 where
  pub eight : depth ≡ 8
  pub size : tx < 25
  pub hor : hor_of txtp ≡ 0
  pub ver : ver_of txtp ≡ 0
  pub across : Side (w_of tx)
  pub down : Side (h_of tx)
