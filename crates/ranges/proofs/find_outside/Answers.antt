-- `ranges::find_outside` meets its contract. Both loops keep one fact: the search of all cells is what is left of it at cell r * w + x. Assumes nothing.
use mathlib.Core.Path.{◌≡◌, sym, ap, ◌∙◌, subst}
use Prim.Native.Nat.{ℕ, ◌<◌, ◌-◌, ◌+◌, ◌*◌}
use native.Mathlib.Nat as N
use native.Mathlib.Omega.{arith}
use borrow.Author.Tests.{not-false}
use mir.Syntax.{w32}
use mir.ValLaws.{to_z-of_z}
use Rattle.whole.proofs.Search.{seek_stop, seek-step, seek-end}
use Rattle.whole.proofs.Cells.{cell-place, row_in}
use Rattle.whole.specs.Search.{seek}
use Rattle.ranges.specs.Cells.{cell_ok, Finds}
use Rattle.ranges.proofs.find_outside.Goals as goal
use Rattle.ranges.proofs.find_outside.Goals.{After-inside}

module _ (c : After-inside) where
  cell : c.rows.r * c.args.w + c.loop-x.x < c.args.h * c.args.w
  cell = omega (arith, row_in c.args.w c.rows-test.true (N.le_refl _), c.loop-x-test.true)

  tested : c.inside.result ≡ cell_ok c.args.lo c.args.hi c.args.p.now c.args.start c.args.stride c.args.w (c.rows.r * c.args.w + c.loop-x.x)
  tested =
      (rw (to_z-of_z w32 c.args.lo c.ranges.lo, to_z-of_z w32 c.args.hi c.ranges.hi, to_z-of_z w32 _ (record { sfits = c.inside-arg-1.given })) at c.inside.ensures)
      ∙ rw (cell-place c.rows.r c.loop-x-test.true c.args.start c.args.stride)

  left : seek (cell_ok c.args.lo c.args.hi c.args.p.now c.args.start c.args.stride c.args.w) 0 (c.args.h * c.args.w)
      ≡ seek (cell_ok c.args.lo c.args.hi c.args.p.now c.args.start c.args.stride c.args.w) (c.rows.r * c.args.w + c.loop-x.x) (c.args.h * c.args.w - (c.rows.r * c.args.w + c.loop-x.x))
  left = rw (to_z-of_z w32 c.args.lo c.ranges.lo, to_z-of_z w32 c.args.hi c.ranges.hi) at c.loop-x.invariant.1

pub loop-x-preserved : goal.loop-x-preserved
loop-x-preserved c =
    let a = c.before in (
      c.loop-x.invariant.0,
      rw (to_z-of_z w32 c.args.lo c.ranges.lo, to_z-of_z w32 c.args.hi c.ranges.hi, ← N.add_assoc (c.rows.r * c.args.w) c.loop-x.x 1)
          (left a ∙ seek-step _ _ _ (cell a) (sym (tested a) ∙ not-false _ c.if-not-inside.false-raw)),
    )

pub returns-then-not-inside : goal.returns-then-not-inside
returns-then-not-inside c = (left c.before ∙ seek_stop _ _ _ (cell c.before) (sym (tested c.before) ∙ c.if-not-inside.true), cell c.before)

pub returns-after-rows : goal.returns-after-rows
returns-after-rows c =
    subst (Finds (cell_ok c.args.lo c.args.hi c.args.p.now c.args.start c.args.stride c.args.w) (c.args.h * c.args.w)) (sym c.rows.invariant.0)
    (
    (rw (to_z-of_z w32 c.args.lo c.ranges.lo, to_z-of_z w32 c.args.hi c.ranges.hi) at c.rows.invariant.1)
    ∙ seek-end _ _ _ (N.mul-le-mul_right c.args.w c.rows-test.false)
    ∙ ap (λ (q : ℕ). q * c.args.w) (omega (arith, c.rows.auto.r-end, c.rows-test.false))
    )
