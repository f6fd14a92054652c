-- `av1::steps::turn` meets its contract: the two numbers and the angle are read back. Assumes nothing.
use mathlib.Core.Path.{◌∙◌}
use Prim.Native.Nat.{◌+◌, ◌*◌}
use lib.Dec.{lit<, lit≤}
use lib.IntN.{ℤ}
use lib.ListN.{set}
use mir.Syntax.{w32}
use mir.Val.{to_z, of_z}
use Rattle.whole.specs.Sums.{item}
use Rattle.whole.proofs.Num.{Num, made, size_of, back}
use Rattle.av1.specs.Steps.{cos_of, sin_of}
use Rattle.av1.proofs.steps.turn.Goals as goal
use Rattle.av1.proofs.steps.turn.Lts as lts
use Rattle.av1.proofs.steps.turn.Reads as reads
use Rattle.av1.proofs.steps.turn.Tie as tie

abbrev Start : Type 0
Start = lts.Start tie.the-claims reads.Pre reads.Post tie.handed_clauses

abbrev M : ℤ → ℤ
M z = to_z w32 (of_z w32 z)

module _ (s : Start) where
  x : Num (M (item s.args.w.now s.args.a)) (item s.args.w.now s.args.a) 524288
  x = made w32 s.requires.a_bound.0 (lit< tt)

  y : Num (M (item s.args.w.now s.args.b)) (item s.args.w.now s.args.b) 524288
  y = made w32 s.requires.a_bound.1 (lit< tt)

  co : Num (M (cos_of s.args.cos.now s.args.h)) (cos_of s.args.cos.now s.args.h) 4096
  co = made w32 (s.requires.a_in_bounds.5.small (s.args.h * 2)) (lit< tt)

  si : Num (M (sin_of s.args.cos.now s.args.h)) (sin_of s.args.cos.now s.args.h) 4096
  si = made w32 (s.requires.a_in_bounds.5.small (s.args.h * 2 + 1)) (lit< tt)

pub turn_x-u-requires : goal.turn_x-u-requires
turn_x-u-requires c =
    (size_of (x c.before.before.before.before) (lit≤ tt), size_of (y c.before.before.before.before) (lit≤ tt), size_of (co c.before.before.before.before) (lit≤ tt), size_of (si c.before.before.before.before) (lit≤ tt))

pub turn_y-v-requires : goal.turn_y-v-requires
turn_y-v-requires c =
    (size_of (x c.before.before.before.before.before) (lit≤ tt), size_of (y c.before.before.before.before.before) (lit≤ tt), size_of (co c.before.before.before.before.before) (lit≤ tt), size_of (si c.before.before.before.before.before) (lit≤ tt))

pub returns : goal.returns
returns c =
    let ex = back c.turn_x-u.type_inv ∙ (rw ((x c.before.before.before.before.before.before).is, (y c.before.before.before.before.before.before).is, (co c.before.before.before.before.before.before).is, (si c.before.before.before.before.before.before).is) at c.turn_x-u.ensures) in
    let ey = back c.turn_y-v.type_inv ∙ (rw ((x c.before.before.before.before.before.before).is, (y c.before.before.before.before.before.before).is, (co c.before.before.before.before.before.before).is, (si c.before.before.before.before.before.before).is) at c.turn_y-v.ensures) in
    λ i. set (set c.args.w.now c.args.d (ex i)) c.args.e (ey i)
