-- `chroma::turn` meets its contract: the two sums stay within 2^28, and what is rounded and clamped is the rule's. Assumes nothing.
use mathlib.Core.Path.{ap, ◌∙◌}
use Prim.Native.Nat.{◌*◌}
use lib.Dec.{lit<, lit≤}
use lib.IntN.{ℤ, ◌+ℤ◌, ◌-ℤ◌, ◌*ℤ◌}
use mir.Syntax.{w32}
use mir.Val.{to_z, of_z}
use mir.ValLaws.{to_z-of_z}
use Rattle.whole.proofs.Num.{Num, given, plus, minus, times, ask, read, size_of, back}
use Rattle.chroma.specs.Chroma.{round256}
use Rattle.chroma.proofs.turn.Goals as goal

-- a number as the machine has it
abbrev M : ℤ → ℤ
M z = to_z w32 (of_z w32 z)

module _ (s : goal.Start) where
  uc : Num (M s.args.u *ℤ M s.args.cosa) (s.args.u *ℤ s.args.cosa) (524288 * 256)
  uc = times (given s.ranges.u s.requires.0) (given s.ranges.cosa s.requires.3)

  vs : Num (M s.args.v *ℤ M s.args.sina) (s.args.v *ℤ s.args.sina) (524288 * 256)
  vs = times (given s.ranges.v s.requires.1) (given s.ranges.sina s.requires.2)

  us : Num (M s.args.u *ℤ M s.args.sina) (s.args.u *ℤ s.args.sina) (524288 * 256)
  us = times (given s.ranges.u s.requires.0) (given s.ranges.sina s.requires.2)

  vc : Num (M s.args.v *ℤ M s.args.cosa) (s.args.v *ℤ s.args.cosa) (524288 * 256)
  vc = times (given s.ranges.v s.requires.1) (given s.ranges.cosa s.requires.3)

-- the two sums, before and after they are stored
module _ (s : goal.Start) where
  a : Num (M (M s.args.u *ℤ M s.args.cosa) -ℤ M (M s.args.v *ℤ M s.args.sina)) (s.args.u *ℤ s.args.cosa -ℤ s.args.v *ℤ s.args.sina) 268435456
  a = minus (read (uc s) w32 (lit< tt)) (read (vs s) w32 (lit< tt))

  b : Num (M (M s.args.u *ℤ M s.args.sina) +ℤ M (M s.args.v *ℤ M s.args.cosa)) (s.args.u *ℤ s.args.sina +ℤ s.args.v *ℤ s.args.cosa) 268435456
  b = plus (read (us s) w32 (lit< tt)) (read (vc s) w32 (lit< tt))

pub overflow_mul-a : goal.overflow_mul-a
overflow_mul-a c = ask (uc c) w32 (lit< tt)

pub overflow_mul-a-2 : goal.overflow_mul-a-2
overflow_mul-a-2 c = ask (vs c) w32 (lit< tt)

pub overflow_sub-a : goal.overflow_sub-a
overflow_sub-a c = ask (a c) w32 (lit< tt)

pub overflow_mul-b : goal.overflow_mul-b
overflow_mul-b c = ask (us c) w32 (lit< tt)

pub overflow_mul-b-2 : goal.overflow_mul-b-2
overflow_mul-b-2 c = ask (vc c) w32 (lit< tt)

pub overflow_add-b : goal.overflow_add-b
overflow_add-b c = ask (b c) w32 (lit< tt)

pub round-requires : goal.round-requires
round-requires c = size_of (read (a c) w32 (lit< tt)) (lit≤ tt)

pub round-requires-2 : goal.round-requires-2
round-requires-2 c = size_of (read (b c.before.before) w32 (lit< tt)) (lit≤ tt)

pub returns : goal.returns
returns c =
    let s = c.before.before.before.before in
    let lo = to_z-of_z w32 c.args.lo c.ranges.lo in
    let hi = to_z-of_z w32 c.args.hi c.ranges.hi in
    let ra = back c.round.type_inv ∙ c.round.ensures ∙ ap round256 (read (a s) w32 (lit< tt)).is in
    let rb = back c.round-2.type_inv ∙ c.round-2.ensures ∙ ap round256 (read (b s) w32 (lit< tt)).is in
    (back c.clamped.type_inv ∙ (rw (lo, hi, ra) at c.clamped.ensures), back c.clamped-2.type_inv ∙ (rw (lo, hi, rb) at c.clamped-2.ensures))
