-- `ranges::low_end` meets its contract: 0 less a power of two. Assumes nothing.
use lib.Dec.{lit<}
use lib.IntN.{pos}
use lib.Pow.{pow_mono}
use mir.Syntax.{w32}
use Rattle.whole.proofs.Num.{lit, minus, widen, ask}
use Rattle.whole.proofs.Range.{power}
use Rattle.ranges.proofs.low_end.Goals as goal

pub overflow_sub-result : goal.overflow_sub-result
overflow_sub-result c = ask (minus (lit (pos 0)) (widen (power c.args.bits c.requires) (pow_mono c.requires))) w32 (lit< tt)
