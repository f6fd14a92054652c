-- `av1::dct::by_table` meets its contract: the list is gathered, run, and put back where no step is refused. Assumes nothing.
use mathlib.Core.Path.{sym, subst}
use mathlib.Core.List.{List}
use Prim.Native.Nat.{ℕ, ◌^◌}
use lib.IntN.{ℤ}
use lib.ListN.{length, get_or}
use Rattle.whole.specs.Sums.{Within, item}
use Rattle.whole.proofs.Fill.{within-tab}
use Rattle.whole.proofs.Sums.{within_all}
use Rattle.av1.specs.Calls.{permuted}
use Rattle.av1.proofs.dct.by_table.Goals as goal

small : (from : List ℕ) (t : List ℤ) → Within (2 ^ 19) t → Within (2 ^ 19) (permuted from t)
small from t h = within-tab (2 ^ 19) (length t) (λ i. item t (get_or from i 0)) (λ x k. within_all (2 ^ 19) t h (get_or from x 0))

pub run-requires-clause-w_bound : goal.run-requires-clause-w_bound
run-requires-clause-w_bound g c = subst (Within (2 ^ 19)) (sym c.gather.ensures) (small c.args.from.now c.args.t.now c.requires.t_bound)
