-- `kernels_run::run` meets the contracts of what it calls. Assumes nothing.
use mathlib.Core.Path.{◌∙◌}
use Prim.Native.Nat.{◌^◌}
use Rattle.tables.proofs.First.{first-length, first-within}
use Rattle.kernels_run.proofs.run.Goals as goal

pub inv_tx1d-requires : goal.inv_tx1d-requires
inv_tx1d-requires g c =
    let xs = c.fill.new.c in
    (c.requires.0, (c.requires.2, (first-length c.args.live xs ∙ c.fill.auto.c ∙ c.requires.1, first-within c.args.live xs (2 ^ 19) (λ k p q. c.fill.ensures k q))))
