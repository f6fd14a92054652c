-- `remain::cells::mend` meets its contract: four searches, then four stores within the index. Assumes nothing.
use Prim.Native.Nat.{◌+◌, ◌*◌, ◌/◌, ◌≤◌, ◌<◌}
use native.Mathlib.Omega.{arith}
use lib.ListN.{set, length-set}
use Rattle.remain.specs.Touch.{across, mended}
use Rattle.remain.proofs.Corners.{few, corner}
use Rattle.remain.proofs.cells.mend.Goals as goal

module _ (c : goal.After-last_touch-d) where
  room : let s = c.before.before.before.before.before.before in across s.args.rows * across s.args.width ≤ 16384 * 16384
  room = let s = c.before.before.before.before.before.before in few s.args.rows s.args.width s.requires.width_bound.1 s.requires.width_bound.0

  at0 : let s = c.before.before.before.before.before.before in (s.args.row / 4) * across s.args.width + (s.args.column / 4) < across s.args.rows * across s.args.width
  at0 = let s = c.before.before.before.before.before.before in corner s.args.rows s.args.width (s.args.row / 4) (s.args.column / 4) (omega (arith, s.requires.width_bound.3)) (omega (arith, s.requires.width_bound.2))

  at1 : let s = c.before.before.before.before.before.before in (s.args.row / 4) * across s.args.width + ((s.args.column + 3) / 4) < across s.args.rows * across s.args.width
  at1 = let s = c.before.before.before.before.before.before in corner s.args.rows s.args.width (s.args.row / 4) ((s.args.column + 3) / 4) (omega (arith, s.requires.width_bound.3)) (omega (arith, s.requires.width_bound.2))

  at2 : let s = c.before.before.before.before.before.before in ((s.args.row + 3) / 4) * across s.args.width + (s.args.column / 4) < across s.args.rows * across s.args.width
  at2 = let s = c.before.before.before.before.before.before in corner s.args.rows s.args.width ((s.args.row + 3) / 4) (s.args.column / 4) (omega (arith, s.requires.width_bound.3)) (omega (arith, s.requires.width_bound.2))

  at3 : let s = c.before.before.before.before.before.before in ((s.args.row + 3) / 4) * across s.args.width + ((s.args.column + 3) / 4) < across s.args.rows * across s.args.width
  at3 = let s = c.before.before.before.before.before.before in corner s.args.rows s.args.width ((s.args.row + 3) / 4) ((s.args.column + 3) / 4) (omega (arith, s.requires.width_bound.3)) (omega (arith, s.requires.width_bound.2))

pub overflow_mul-index : goal.overflow_mul-index
overflow_mul-index c = record { fits = omega (arith, at0 c, room c) }

pub overflow_add-index : goal.overflow_add-index
overflow_add-index c = record { fits = omega (arith, at0 c, room c) }

pub offset_bounds-index-y : goal.offset_bounds-index-y
offset_bounds-index-y c = record { fits = omega (arith, at0 c, room c) }

pub bounds-index-y : goal.bounds-index-y
bounds-index-y c = (omega (arith, at0 c, c.requires.width_bound.4))

pub overflow_mul-index-2 : goal.overflow_mul-index-2
overflow_mul-index-2 c = record { fits = omega (arith, at1 c, room c) }

pub overflow_add-index-2 : goal.overflow_add-index-2
overflow_add-index-2 c = record { fits = omega (arith, at1 c, room c) }

pub offset_bounds-index-y-2 : goal.offset_bounds-index-y-2
offset_bounds-index-y-2 c = record { fits = omega (arith, at1 c, room c) }

pub bounds-index-y-2 : goal.bounds-index-y-2
bounds-index-y-2 c = simp length-set (omega (arith, at1 c, c.requires.width_bound.4))

pub overflow_mul-index-3 : goal.overflow_mul-index-3
overflow_mul-index-3 c = record { fits = omega (arith, at2 c, room c) }

pub overflow_add-index-3 : goal.overflow_add-index-3
overflow_add-index-3 c = record { fits = omega (arith, at2 c, room c) }

pub offset_bounds-index-below : goal.offset_bounds-index-below
offset_bounds-index-below c = record { fits = omega (arith, at2 c, room c) }

pub bounds-index-below : goal.bounds-index-below
bounds-index-below c = simp length-set (omega (arith, at2 c, c.requires.width_bound.4))

pub overflow_mul-index-4 : goal.overflow_mul-index-4
overflow_mul-index-4 c = record { fits = omega (arith, at3 c, room c) }

pub overflow_add-index-4 : goal.overflow_add-index-4
overflow_add-index-4 c = record { fits = omega (arith, at3 c, room c) }

pub offset_bounds-index-below-2 : goal.offset_bounds-index-below-2
offset_bounds-index-below-2 c = record { fits = omega (arith, at3 c, room c) }

pub bounds-index-below-2 : goal.bounds-index-below-2
bounds-index-below-2 c = simp length-set (omega (arith, at3 c, c.requires.width_bound.4))

pub returns : goal.returns
unfolding mended
returns c =
    let s = c.before.before.before.before.before.before in
    let w = across s.args.width in
    λ i. set (set (set (set s.args.index.now ((s.args.row / 4) * w + s.args.column / 4) (c.last_touch-a.ensures i))
    ((s.args.row / 4) * w + (s.args.column + 3) / 4) (c.last_touch-b.ensures i))
    (((s.args.row + 3) / 4) * w + s.args.column / 4) (c.last_touch-c.ensures i))
    (((s.args.row + 3) / 4) * w + (s.args.column + 3) / 4) (c.last_touch-d.ensures i)
