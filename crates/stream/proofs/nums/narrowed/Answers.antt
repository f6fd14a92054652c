-- `nums::narrowed` meets its contract: at the end every byte is made. Assumes nothing.
use native.Mathlib.Omega.{arith}
use Rattle.whole.proofs.Fill.{filled-all}
use Rattle.stream.proofs.nums.narrowed.Goals as goal

pub returns : goal.returns
returns c = filled-all 0 c.loop-i.out _ _ (omega arith) (λ k h. c.loop-i.invariant k (omega arith))
