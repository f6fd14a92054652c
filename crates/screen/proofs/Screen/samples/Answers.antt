-- `Screen::samples` meets its contract: a line has at most 320, and there are at most 256 lines. Assumes nothing.
use native.Mathlib.Nat.{le_refl}
use Rattle.screen.proofs.Planes.{few-samples, few-fits}
use Rattle.screen.proofs.Screen.samples.Goals as goal

pub overflow_mul-result : goal.overflow_mul-result
overflow_mul-result c = few-fits c.requires.0 c.requires.1

pub returns-clause-most : goal.returns-clause-most
returns-clause-most c = few-samples c.requires.0 c.requires.1 (le_refl 81920)
