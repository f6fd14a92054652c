-- `lanes::dct::odd` meets its contract: after i turns each lane has the sum of the first i products. Assumes nothing.
use mathlib.Core.Path.{◌≡◌, ap, ◌∙◌}
use Prim.Native.Nat.{◌+◌, ◌*◌, ◌≤◌, ◌<◌}
use native.Mathlib.Omega.{arith}
use borrow.Author.Rules.{rules}
use lib.ListN.{length}
use mir.Syntax.{w32}
use mir.Val.{to_z, of_z}
use mir.ValLaws.{to_z-of_z}
use Rattle.whole.specs.Sums.{dot_z, term_row}
use Rattle.whole.specs.Lanes.{col}
use Rattle.whole.specs.Parts.{place_at}
use Rattle.whole.proofs.Tables.{row-end}
use Rattle.whole.proofs.LaneTurns.{MulAdd, term-turn}
use Rattle.lanes.specs.Halves.{weight}
use Rattle.lanes.proofs.Columns.{col-read-at}
use Rattle.lanes.proofs.dct.odd.Given.{Over}
use Rattle.lanes.proofs.dct.odd.Goals as goal
use Rattle.lanes.proofs.dct.odd.Goals.{After-from, In-loop-i}

-- the place of the record that a turn reads, and of the number of the table
module _ (g : Over) (c : In-loop-i g) where
  within : place_at c.args.start (c.args.start + c.args.start) c.loop-i.i < length c.args.c.now
  within = c.requires.0.inside c.loop-i.i c.loop-i-test.true

  table : c.args.m * c.args.h + c.args.h ≤ c.args.h * c.args.h
  table = row-end c.requires.1

turn : (g : Over) (c : After-from g)
    → MulAdd g.L.Lanes.lane c.index-c-j.result (to_z w32 (of_z w32 c.from.result)) c.loop-i.acc (λ k. dot_z (term_row (weight c.args.h c.args.t.now c.args.m) (place_at c.args.start (c.args.start + c.args.start)) (c.loop-i.i + 1)) (col g.L.Lanes.lane k c.args.c.now))
turn g c =
    let at = g.L.Lanes.lane in
    term-turn at (λ k. col at k c.args.c.now) c.requires.2 (weight c.args.h c.args.t.now c.args.m) (place_at c.args.start (c.args.start + c.args.start)) c.args.h (c.requires.0.small c.args.m c.requires.1)
    c.loop-i-test.true c.index-c-j.result (col-read-at at c.args.c.now (c.requires.0.inside c.loop-i.i c.loop-i-test.true) (omega arith) c.index-c-j.is)
    (to_z-of_z w32 _ (record { sfits = c.from.type_inv }) ∙ c.from.ensures ∙ search rules) c.loop-i.acc c.loop-i.invariant

pub mul_add_n-acc-requires : goal.mul_add_n-acc-requires
mul_add_n-acc-requires g c = record { by_index = (turn g c).mul; by_index_2 = (turn g c).add }

pub loop-i-preserved : goal.loop-i-preserved
loop-i-preserved g c = (turn g c.before).is c.mul_add_n-acc.result c.mul_add_n-acc.ensures

pub returns : goal.returns
returns g c k =
    let e : c.loop-i.i ≡ c.args.h = omega arith in
    c.loop-i.invariant k ∙ ap (λ j. dot_z (term_row (weight c.args.h c.args.t.now c.args.m) (place_at c.args.start (c.args.start + c.args.start)) j) (col g.L.Lanes.lane k c.args.c.now)) e

pub overflow_add-j : goal.overflow_add-j
overflow_add-j g c = omega (arith, table g c, c.requires.0.square)

pub overflow_add-j-in-loop-i : goal.overflow_add-j-in-loop-i
overflow_add-j-in-loop-i g c = omega (arith, table g c, c.requires.0.square)

pub overflow_mul-j : goal.overflow_mul-j
overflow_mul-j g c = omega (arith, within g c)

pub overflow_mul-p : goal.overflow_mul-p
overflow_mul-p g c = omega (arith, table g c, c.requires.0.square)

pub overflow_add-p : goal.overflow_add-p
overflow_add-p g c = omega (arith, table g c, c.requires.0.square)

pub bounds-c-j : goal.bounds-c-j
bounds-c-j g c = omega (arith, within g c)

pub bounds-t-p : goal.bounds-t-p
bounds-t-p g c = omega (arith, table g c.before, c.requires.0.square)
