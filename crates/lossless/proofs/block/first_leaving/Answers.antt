-- `lossless::block::first_leaving` meets its contract. Both loops keep one fact: the search of sixteen cells is what is left of it at cell r * 4 + x. Assumes nothing.
use mathlib.Core.Path.{◌≡◌, sym, ap, ◌∙◌, subst}
use mathlib.Core.Bool.{Bool}
use Prim.Native.Nat.{ℕ, ◌<◌, ◌+◌, ◌*◌}
use native.Mathlib.Nat as N
use native.Mathlib.Omega.{arith}
use lib.Dec.{lit<}
use lib.IntN.{pos, ◌+ℤ◌}
use mir.Syntax.{w32}
use mir.Val.{to_z, of_z}
use mir.ValLaws.{to_z-of_z}
use Rattle.whole.specs.Sums.{item}
use Rattle.whole.specs.Numbers.{in_range}
use Rattle.whole.specs.Search.{cell_at}
use Rattle.whole.proofs.Cells.{cell-place}
use Rattle.whole.proofs.Num.{Num, ask, read}
use Rattle.whole.proofs.Search.{seek_stop, seek-step, seek-end}
use Rattle.ranges.specs.Cells.{Finds}
use Rattle.lossless.specs.Gains.{later_ok}
use Rattle.lossless.proofs.Adding.{total}
use Rattle.lossless.proofs.block.first_leaving.Invariants.{Left}
use Rattle.lossless.proofs.block.first_leaving.Goals as goal
use Rattle.lossless.proofs.block.first_leaving.Goals.{In-loop-x, After-inside}

-- a cell of the block: its sample with its number
module _ (c : In-loop-x) where
  cell : c.rows.r * 4 + c.loop-x.x < 16
  cell = omega arith

  sum : Num
      (to_z w32 (of_z w32 (item c.args.plane.now (c.args.start + c.rows.r * c.args.stride + c.loop-x.x))) +ℤ to_z w32 (of_z w32 (item c.args.gains.now (c.rows.r * 4 + c.loop-x.x))))
      (item c.args.plane.now (cell_at c.args.start c.args.stride 4 (c.rows.r * 4 + c.loop-x.x)) +ℤ item c.args.gains.now (c.rows.r * 4 + c.loop-x.x))
      (4095 + 1048576)
  sum = total c.requires (c.rows.r * 4 + c.loop-x.x) cell (ap (item c.args.plane.now) (sym (cell-place c.rows.r c.loop-x-test.true c.args.start c.args.stride)))

-- the test of a cell, by the parameters, and what is left of the search
module _ (c : After-inside) where
  abbrev Ok : ℕ → Bool
  Ok = later_ok (in_range (pos 0) c.args.hi) (cell_at c.args.start c.args.stride 4) c.args.plane.now (item c.args.gains.now)

  tested : c.inside.result ≡ Ok (c.rows.r * 4 + c.loop-x.x)
  tested = rw (to_z-of_z w32 c.args.hi c.ranges.hi, (read (sum c.before.before.before) w32 (lit< tt)).is) at c.inside.ensures

  left : Left Ok (c.rows.r * 4 + c.loop-x.x)
  left = rw (to_z-of_z w32 c.args.hi c.ranges.hi) at c.loop-x.invariant.1

  within : c.rows.r * 4 + c.loop-x.x < 16
  within = omega arith

pub overflow_add-z-in-loop-x-2 : goal.overflow_add-z-in-loop-x-2
overflow_add-z-in-loop-x-2 c = ask (sum c.before.before) w32 (lit< tt)

pub returns-then-not-inside : goal.returns-then-not-inside
returns-then-not-inside c =
    let a = c.before in
    (left a ∙ seek_stop _ _ _ (within a) (sym (tested a) ∙ c.if-not-inside.true), within a)

pub loop-x-preserved : goal.loop-x-preserved
loop-x-preserved c =
    let a = c.before in (
      c.loop-x.invariant.0,
      rw (to_z-of_z w32 c.args.hi c.ranges.hi, ← N.add_assoc (c.rows.r * 4) c.loop-x.x 1)
          (left a ∙ seek-step _ _ _ (within a) (sym (tested a) ∙ c.if-not-inside.false)),
    )

pub returns-after-rows : goal.returns-after-rows
returns-after-rows c =
    subst (Finds (later_ok (in_range (pos 0) c.args.hi) (cell_at c.args.start c.args.stride 4) c.args.plane.now (item c.args.gains.now)) 16) (sym c.rows.invariant.0)
    (
    (rw (to_z-of_z w32 c.args.hi c.ranges.hi) at c.rows.invariant.1)
    ∙ seek-end _ _ _ (omega arith)
    ∙ omega arith
    )
