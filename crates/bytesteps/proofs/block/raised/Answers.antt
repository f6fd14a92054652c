-- `bytesteps::block::raised` meets its contract: the sum, read back, and its cast, which loses nothing. Assumes nothing.
use mathlib.Core.Path.{ap, ◌∙◌}
use lib.Dec.{lit<}
use lib.IntN.{pos, nat_abs, ◌+ℤ◌}
use mir.Syntax.{w32}
use mir.Val.{to_z, of_z}
use Rattle.whole.proofs.Num.{Num, ask, read}
use Rattle.bytesteps.proofs.Sums.{byte-sum}
use Rattle.bytesteps.proofs.block.raised.Goals as goal

sum : (c : goal.After-number) → let s = c.before in Num (to_z w32 (of_z w32 c.number.result) +ℤ to_z w32 (of_z w32 s.args.e)) (pos s.args.x +ℤ s.args.e) 1048831
sum c = let s = c.before in byte-sum c.number.ensures.0 c.number.ensures.1 s.ranges.e s.requires.e_bound

pub overflow_add-z : goal.overflow_add-z
overflow_add-z c = ask (sum c) w32 (lit< tt)

pub byte-requires : goal.byte-requires
byte-requires c = rw (read (sum c) w32 (lit< tt)).is c.requires.e_value

pub returns : goal.returns
returns c = c.byte.ensures ∙ ap nat_abs (read (sum c.before) w32 (lit< tt)).is
