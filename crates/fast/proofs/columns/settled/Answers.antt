-- `fast::columns::settled` meets its contract: the front of the results is lent as a part, and rounded. Assumes nothing.
use mathlib.Core.Path.{sym, ◌∙◌}
use Prim.Native.Nat.{◌^◌}
use native.Mathlib.Nat as N
use lib.Dec.{lit≤}
use lib.ListN.{length-take}
use Rattle.whole.specs.Numbers.{round_shift}
use Rattle.whole.proofs.Grid.{grid-within, grid-mapped}
use Rattle.fast.proofs.columns.settled.Goals as goal

pub slice_bounds-settle-end-2 : goal.slice_bounds-settle-end-2
slice_bounds-settle-end-2 c = sym (length-take _ _ ∙ N.min-eq_left c.requires.0)

pub settle-requires : goal.settle-requires
settle-requires c =
    (grid-within (2 ^ 30) 16 c.args.sh c.args.out.now (λ r x a b. N.le_trans (c.requires.2 r x a b) (lit≤ tt)), c.requires.1)

pub returns : goal.returns
returns c =
    let n = c.settle in
    grid-mapped 16 c.args.sh (round_shift c.args.shift) c.args.out.now n.new.out c.requires.0 n.ensures
