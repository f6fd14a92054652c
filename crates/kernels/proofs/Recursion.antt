-- The recursive DCT of 16 is the flat one (document 01, "Port order", 2). Assumes nothing.
--     recurse-16            of 16 numbers the two promises name one list
--     recurse-is-dct16      of a lent slice of 16 numbers: what `dct_recurse`, by its promise, leaves there is what `flat16`, by its promise, leaves
use mathlib.Core.Path.{◌≡◌, sym, ap, ◌∙◌}
use mathlib.Core.List.{List}
use lib.IntN.{ℤ}
use lib.ListN.{length}
use contract.Lifetimes.{Lfts}
use denote.Triple.Clauses.{AtExit}
use borrow.Fn.Kinds.{Dens, ended_of}
use Rattle.whole.specs.Sums.{dense_c}
use Rattle.tables.specs.Dct.{dct16}
use Rattle.kernels.specs.Dct.{dct_of}
use Rattle.kernels.proofs.dct.dct_recurse.Kinds.{ps, r}
use Rattle.kernels.proofs.dct.dct_recurse.Reads as recurse
use Rattle.kernels.proofs.dct.flat16.Reads as flat

pub recurse-16 : (xs : List ℤ) → length xs ≡ 16 → dct_of (length xs) xs ≡ dense_c 16 dct16 xs
recurse-16 xs e = ap (λ n. dct_of n xs) e

pub recurse-is-dct16 :
    (κs : Lfts 1) (c : Dens κs ps) (left other : AtExit (ended_of 1 ps r) κs)
    → length c.0.now ≡ 16 → recurse.Learnt κs c tt left → flat.Learnt κs c tt other → left.0.now ≡ other.0.now
recurse-is-dct16 κs c left other e p q = p ∙ recurse-16 c.0.now e ∙ sym q
