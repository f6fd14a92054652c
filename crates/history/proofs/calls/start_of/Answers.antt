-- `history::calls::start_of` meets its contract: the sum of two words, which is small. Assumes nothing.
use mathlib.Core.Path.{ap}
use Prim.Native.Nat.{◌+◌, ◌*◌}
use native.Mathlib.Omega.{arith}
use Rattle.history.proofs.calls.start_of.Goals as goal

pub overflow_mul-result : goal.overflow_mul-result
overflow_mul-result c = record { fits = omega (arith, ap (λ x. x * c.args.stride) c.word.ensures, c.requires.2) }

pub overflow_add-result : goal.overflow_add-result
overflow_add-result c = record { fits = omega (arith, ap (λ x. x * c.args.stride) c.word.ensures, c.word-2.ensures, c.requires.2, c.requires.3) }

pub returns : goal.returns
returns c = λ k. c.word.ensures k * c.args.stride + c.word-2.ensures k
