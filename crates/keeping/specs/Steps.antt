-- Remaining steps as steps of the lossless crate. Definitions only.
--     step_in a e, steps_in a es      an entry, and a list of entries
use Rattle.std.specs.Prelude.{List, [], ◌∷◌}
use Rattle.lossless.specs.Step.{Step, attempt}
use Rattle.remain.specs.Remaining.{Entry}
use Rattle.keeping.specs.Range.{Area}

abbrev pub step_in : Area → Entry → Step
step_in a e = attempt e.mark.depth a.stride a.width e.mark.row e.mark.column e.levels

abbrev pub steps_in : Area → List Entry → List Step
steps_in a [] = []
steps_in a (e ∷ es) = step_in a e ∷ steps_in a es
