-- `judge::judge_numbers` meets its contract: the cell that was found lies in the plane. Assumes nothing.
use Prim.Native.Nat.{ℕ, ◌+◌, ◌*◌, ◌/◌, ◌%◌, ◌≤◌, ◌<◌}
use native.Mathlib.Omega.{arith}
use lib.ListN.{length}
use Rattle.whole.proofs.Cells.{row_of, column-of}
use Rattle.verdicts.proofs.judge.judge_numbers.Goals as goal

place : (w h stride n i : ℕ) → ((r : ℕ) → r < h → r * stride + w ≤ n) → i < h * w → i / w * stride + i % w < n
place w h stride n i rows l = omega (arith, rows (i / w) (row_of w h i l), column-of w h i l)

pub overflow_mul-result : goal.overflow_mul-result
overflow_mul-result c =
    omega (arith, place c.args.s.w c.args.s.h c.args.stride (length c.args.p.now) c.in-Some.i c.requires.3 c.in-Some.ensures.1, c.well_formed.1.0.0)

pub overflow_add-result : goal.overflow_add-result
overflow_add-result c =
    omega (arith, place c.args.s.w c.args.s.h c.args.stride (length c.args.p.now) c.in-Some.i c.requires.3 c.in-Some.ensures.1, c.well_formed.1.0.0)
