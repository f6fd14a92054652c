-- `av1::steps::turn_y` meets its contract: the products and their sum fit 64 bits, the result 32. Assumes nothing.
use lib.Dec.{lit<}
use lib.IntN.{ℤ, ◌+ℤ◌, ◌*ℤ◌}
use mir.Syntax.{w32, w64}
use mir.Val.{to_z, of_z}
use Rattle.whole.proofs.Num.{Num, given, plus, times, ask, read}
use Rattle.av1.specs.Steps.{turn_y}
use Rattle.av1.proofs.Wide.{wide, half, shifted12}
use Rattle.av1.proofs.steps.turn_y.Goals as goal

-- a number as the machine has it, widened, and in 64 bits
abbrev W : ℤ → ℤ
W z = to_z w64 (of_z w64 (to_z w32 (of_z w32 z)))

abbrev M : ℤ → ℤ
M z = to_z w64 (of_z w64 z)

module _ (s : goal.Start) where
  x : Num (W s.args.x) s.args.x 524288
  x = wide s.ranges.x s.requires.0 (lit< tt)

  y : Num (W s.args.y) s.args.y 524288
  y = wide s.ranges.y s.requires.1 (lit< tt)

  c : Num (W s.args.c) s.args.c 4096
  c = wide s.ranges.c s.requires.2 (lit< tt)

  d : Num (W s.args.s) s.args.s 4096
  d = wide s.ranges.s s.requires.3 (lit< tt)

module _ (s : goal.Start) where
  p : Num (W s.args.x *ℤ W s.args.s) (s.args.x *ℤ s.args.s) 2147483648
  p = times (x s) (d s)

  q : Num (W s.args.y *ℤ W s.args.c) (s.args.y *ℤ s.args.c) 2147483648
  q = times (y s) (c s)

module _ (s : goal.Start) where
  u : Num (M (W s.args.x *ℤ W s.args.s) +ℤ M (W s.args.y *ℤ W s.args.c)) (s.args.x *ℤ s.args.s +ℤ s.args.y *ℤ s.args.c) 4294967296
  u = plus (read (p s) w64 (lit< tt)) (read (q s) w64 (lit< tt))

pub overflow_cast-u : goal.overflow_cast-u
overflow_cast-u e = ask (given e.ranges.x e.requires.0) w64 (lit< tt)

pub overflow_cast-u-2 : goal.overflow_cast-u-2
overflow_cast-u-2 e = ask (given e.ranges.s e.requires.3) w64 (lit< tt)

pub overflow_mul-u : goal.overflow_mul-u
overflow_mul-u e = ask (p e) w64 (lit< tt)

pub overflow_cast-u-3 : goal.overflow_cast-u-3
overflow_cast-u-3 e = ask (given e.ranges.y e.requires.1) w64 (lit< tt)

pub overflow_cast-u-4 : goal.overflow_cast-u-4
overflow_cast-u-4 e = ask (given e.ranges.c e.requires.2) w64 (lit< tt)

pub overflow_mul-u-2 : goal.overflow_mul-u-2
overflow_mul-u-2 e = ask (q e) w64 (lit< tt)

pub overflow_add-u : goal.overflow_add-u
overflow_add-u e = ask (u e) w64 (lit< tt)

pub overflow_add-result : goal.overflow_add-result
overflow_add-result e = ask (half (read (u e) w64 (lit< tt))) w64 (lit< tt)

pub overflow_cast-result : goal.overflow_cast-result
overflow_cast-result e = ask (shifted12 (read (u e) w64 (lit< tt))) w32 (lit< tt)

pub returns : goal.returns
unfolding turn_y
returns e = (read (shifted12 (read (u e) w64 (lit< tt))) w32 (lit< tt)).is
