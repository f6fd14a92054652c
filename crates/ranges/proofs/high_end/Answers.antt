-- `ranges::high_end` meets its contract: a power of two less 1. Assumes nothing.
use lib.Dec.{lit<}
use lib.IntN.{pos}
use lib.Pow.{pow_mono}
use mir.Syntax.{w32}
use Rattle.whole.proofs.Num.{lit, minus, widen, ask}
use Rattle.whole.proofs.Range.{power}
use Rattle.ranges.proofs.high_end.Goals as goal

pub overflow_sub-result : goal.overflow_sub-result
overflow_sub-result c = ask (minus (widen (power c.args.bits c.requires) (pow_mono c.requires)) (lit (pos 1))) w32 (lit< tt)
