-- `quick_bytes::columns::strip` meets its contract: the results of a group, and the rows of bytes that gain them. Assumes nothing.
use mathlib.Core.Path.{◌≡◌, ap}
use mathlib.Core.List.{List}
use Prim.Native.Nat.{◌+◌, ◌*◌}
use native.Mathlib.Nat as N
use native.Mathlib.Omega.{arith}
use lib.Dec.{lit≤}
use lib.IntN.{ℤ}
use lib.ListN.{length, get_or}
use Rattle.narrow.proofs.Paints.{paint-same}
use Rattle.quick_bytes.specs.Held.{reached}
use Rattle.quick_bytes.proofs.columns.strip.Goals as goal
use Rattle.quick_bytes.proofs.columns.strip.Lts as lts
use Rattle.quick_bytes.proofs.columns.strip.Reads as reads
use Rattle.quick_bytes.proofs.columns.strip.Tie as tie

abbrev After-results : Type 0
After-results = lts.After-results tie.the-claims reads.Pre reads.Post tie.handed_clauses

abbrev Start : Type 0
Start = lts.Start tie.the-claims reads.Pre reads.Post tie.handed_clauses

module _ (c : After-results) where
  abbrev start : Start
  start = c.before.before.before

  abbrev res : List ℤ
  res = c.results.new.out

  long : length res ≡ length start.args.res.now
  long = c.results.auto.out

pub gain_rows-requires : goal.gain_rows-requires
gain_rows-requires c =
    (c.requires.held.0, c.requires.held.1, c.requires.held.2, λ y h. (omega (arith, long c.before.before, c.requires.sized.2), λ l a. N.le_trans (c.results.ensures.small y l h a) (lit≤ tt)))

pub returns : goal.returns
returns c =
    paint-same (λ y x a b. ap (λ z. reached c.args.shift (get_or c.args.dst.now (c.args.from + y * c.args.stride + x) 0) z) (c.results.ensures.is y x a (N.lt_of_lt_of_le b c.requires.held.1))) c.gain_rows.ensures
