use mathlib.Core.Path.{◌≡◌}
use lib.ListN.{drop}
use Rattle.words.specs.Words.{size_of, size_from}
use Rattle.words.proofs.decimal.digits.Given as goal

abbrev pub invariant-loop-b : goal.invariant-loop-b
invariant-loop-b l = size_of l.word ≡ size_from l.v (drop l.b-index l.word)
