-- The DCT of 16 by recursion and the flat one (document 01, "Port order", 2). Assumes nothing.
--     recursive-is-flat    of a lent slice of 16 numbers: what `dct_recurse`, by its contract, leaves there is what `flat16`, by its contract, leaves
use mathlib.Core.Path.{◌≡◌}
use lib.ListN.{length}
use contract.Lifetimes.{Lfts}
use denote.Triple.Clauses.{AtExit}
use borrow.Fn.Kinds.{Dens, ended_of}
use Rattle.kernels.proofs.dct.dct_recurse.Kinds.{ps, r}
use Rattle.kernels.proofs.dct.dct_recurse.Reads as recurse
use Rattle.kernels.proofs.dct.flat16.Reads as flat
use Rattle.kernels.proofs.Recursion.{recurse-is-dct16}

pub recursive-is-flat :
    (κs : Lfts 1) (c : Dens κs ps) (left other : AtExit (ended_of 1 ps r) κs)
    → length c.0.now ≡ 16 → recurse.Learnt κs c tt left → flat.Learnt κs c tt other → left.0.now ≡ other.0.now
recursive-is-flat = recurse-is-dct16
