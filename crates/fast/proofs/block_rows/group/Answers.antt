-- `fast::block_rows::group` meets its contract: what enters goes through the DCT, and is turned. Assumes nothing.
use mathlib.Core.Path.{ap, ◌∙◌}
use Prim.Native.Nat.{◌+◌, zero-le}
use native.Mathlib.Nat as N
use native.Mathlib.Omega.{arith}
use lib.Dec.{lit≤}
use Rattle.passes.specs.Passes.{settled_to, loaded}
use Rattle.wide_rows.specs.Lines.{Silent}
use Rattle.fast.proofs.Turned.{side_by_side, entered-line, group-same}
use Rattle.fast.proofs.block_rows.group.Goals as goal
use Rattle.fast.proofs.block_rows.group.Lts as lts
use Rattle.fast.proofs.block_rows.group.Reads as reads
use Rattle.fast.proofs.block_rows.group.Tie as tie

abbrev After-enter : Type 0
After-enter = lts.After-enter tie.the-claims reads.Pre reads.Post tie.handed_clauses

-- the numbers of a line from live on are still 0
still : (c : After-enter) → Silent c.args.sw c.args.live c.enter.new.t
still c l j a b d = c.enter.ensures.rest l j a b ∙ c.requires.sh_in_bounds.2 l j a b d

pub lines-requires : goal.lines-requires
lines-requires c =
    (c.requires.sized.0, omega (arith, c.requires.sized.5, c.enter.ensures.long), c.requires.sized.6, still c.before.before)

pub leave-requires : goal.leave-requires
leave-requires c =
    (c.requires.sized.0, omega (arith, c.requires.sized.6, c.lines.auto.out), (λ l x a b. N.le_trans (c.lines.ensures.1 l x a zero-le b) (lit≤ tt)), c.requires.sized.2, c.requires.sized.4, c.requires.sized.7, c.requires.sized.8)

pub returns : goal.returns
returns c =
    let g = loaded c.args.rowwise c.args.scale 8 c.args.sw c.args.sh c.args.coeff.now in (
      group-same
          (λ l x a b. ap (settled_to 15 c.args.shift) (side_by_side c.args.sw l (g (c.args.r + l)) c.enter.new.t c.lines.new.out c.lines.ensures.0 (N.lt_of_lt_of_le a c.requires.sized.4) (λ y q. entered-line c.args.sw c.args.sh c.args.live c.args.r g c.args.t.now c.enter.new.t c.enter.ensures c.requires.sh_in_bounds.2 c.requires.sh_in_bounds.3 c.requires.sized.2 c.requires.sized.4 l y a q) x b))
          c.leave.ensures,
      still c.before.before.before.before.before.before.before,
    )
