-- How many lines go through a kernel together. Definitions only.
--     lanes_of n     the form of a number of lines: four, eight, or one at any other number
use Rattle.std.specs.Prelude.{cond, ℕ, eqb}
use Rattle.passes.specs.declared.block.Lanes.{Lanes}
use Rattle.passes.specs.declared.block.Lanes.TheVariants.{One, Four, Eight}

abbrev pub lanes_of : ℕ → Lanes
lanes_of n = cond (eqb n 8) Eight (cond (eqb n 4) Four One)
